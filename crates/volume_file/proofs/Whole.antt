-- A whole volume file: its header, then its body.
use Rattle.std.proofs.Common.{◌≡◌, ℕ, ◌+◌, ◌≤◌, true, List, ◌++◌, take, drop, Option, Some, None, IfSome, is_some, if◌then◌else◌, refl, sym, ap, ◌∙◌, subst, arith}
use Rattle.std.specs.Option.{option_map}
use Rattle.std.proofs.lemmas.List.{take_at, drop_at}
use Rattle.agglo_model.specs.Axes.{Axes, edge_count}
use Rattle.agglo_model.specs.Grid.{Grid}
use Rattle.agglo_model.specs.VolumeFile.{VolumeFlaw, header_flaw, header_axes, body_flaw, body, first_of_two, volume_flaw, volume_in}
use Rattle.seg_io.specs.Desk.{DeskState, taken}
use Rattle.seg_io.proofs.Bytes.{same_bytes, joined_bytes}
use Rattle.seg_io.proofs.States.{for_some, taken-taken}
use Rattle.volume_file.specs.declared.fault.VolumeFault.{VolumeFault}
use Rattle.volume_file.specs.declared.fault.VolumeFault.TheVariants.{ShortHeader, Magic, Channels, Reserved, AxisZero, AxisLarge, TooMany, Truncated, Trailing, Read, Memory}
use Rattle.volume_file.specs.Fault.{fault_of}
use Rattle.volume_file.specs.Reading.{IsHeader, Tells, ReadsHead, FindsBadHead, FailsToReadHead, ReadsBody, FindsBadBody, FailsToReadBody, judged_length, ReadsVolume, FindsBadVolume, FailsToReadVolume}
use Rattle.volume_file.proofs.Header.{header_flaw-front, header_axes-front}
use Rattle.seg_io.proofs.InputStates.{emptied_later, takes_more, fails_later, fails_sooner}

-- the header's flaw comes first
head_first : (o later : Option VolumeFlaw) (fault : VolumeFault) → option_map fault_of o ≡ Some fault
    → option_map fault_of (first_of_two o later) ≡ Some fault
head_first None later fault e = absurd (cc)
head_first (Some flaw) later fault e = e

told_head : (o : Option VolumeFlaw) (n : ℕ) (fault : VolumeFault) → option_map fault_of o ≡ Some fault
    → (if is_some o then 32 else n) ≡ 32
told_head None n fault e = absurd (cc)
told_head (Some flaw) n fault e = refl

head_flaw : (o : Option (List ℕ)) (fault : VolumeFault) → IfSome o (λ bytes. option_map fault_of (header_flaw bytes) ≡ Some fault)
    → IfSome o (λ bytes. option_map fault_of (volume_flaw bytes) ≡ Some fault)
head_flaw None fault flaw = tt
head_flaw (Some bytes) fault flaw = head_first (header_flaw bytes) (body_flaw (header_axes bytes) (body bytes)) fault flaw

-- of a file whose header has a flaw the header is read
judged_head : (o : Option (List ℕ)) (fault : VolumeFault) → IfSome o (λ bytes. option_map fault_of (header_flaw bytes) ≡ Some fault)
    → IfSome o (λ bytes. 32 ≡ judged_length bytes)
judged_head None fault flaw = tt
judged_head (Some bytes) fault flaw = sym (told_head (header_flaw bytes) (32 + (edge_count (header_axes bytes) + 1)) fault flaw)

bad_volume : (fault : VolumeFault) (old new : DeskState) → FindsBadHead fault old new → FindsBadVolume fault old new
bad_volume fault old new f = record {
  possible = same_bytes (λ bytes. head_first (header_flaw bytes) (body_flaw (header_axes bytes) (body bytes)) fault) f.possible;
  flaw = head_flaw old.input fault f.flaw;
  count = 32;
  judged = judged_head old.input fault f.flaw;
  after = f.after;
}

-- of any file the header is read
head_judged : (bytes : List ℕ) → 32 ≤ judged_length bytes
head_judged bytes = by_flaw (header_flaw bytes) (edge_count (header_axes bytes))
  where
    by_flaw : (flaw : Option VolumeFlaw) (n : ℕ) → 32 ≤ (if is_some flaw then 32 else (32 + (n + 1)))
    by_flaw None n = omega arith
    by_flaw (Some flaw) n = omega arith

-- the header was not read
pub no_head : (fault : VolumeFault) (old new : DeskState) → FailsToReadHead fault old new → FailsToReadVolume fault old new
no_head (ShortHeader got) old new f = bad_volume (ShortHeader got) old new f
no_head Magic old new f = bad_volume Magic old new f
no_head (Channels count) old new f = bad_volume (Channels count) old new f
no_head Reserved old new f = bad_volume Reserved old new f
no_head (AxisZero axis) old new f = bad_volume (AxisZero axis) old new f
no_head (AxisLarge axis) old new f = bad_volume (AxisLarge axis) old new f
no_head TooMany old new f = bad_volume TooMany old new f
no_head (Truncated got) old new f = absurd f
no_head Trailing old new f = absurd f
no_head Read old new f = fails_sooner (λ _. 32) judged_length old new (for_some old.input (λ bytes. 32 ≤ judged_length bytes) head_judged) f
no_head Memory old new f = absurd f

-- a sound header leaves the flaw to the body
sound_head : (bytes : List ℕ) (a : Axes) → header_flaw bytes ≡ None → a ≡ header_axes bytes
    → volume_flaw bytes ≡ body_flaw a (body bytes)
sound_head bytes a sound says =
    ap (λ (o : Option VolumeFlaw). first_of_two o (body_flaw (header_axes bytes) (body bytes))) sound
    ∙ ap (λ (x : Axes). body_flaw x (body bytes)) (sym says)

-- what is told of the input after the header is told of the body
body_left : (old now : DeskState) (P : List ℕ → Type 0) → now ≡ taken 32 old → IfSome now.input P
    → IfSome (option_map (drop 32) old.input) P
body_left old now P e h = subst (λ (s : DeskState). IfSome s.input P) e h

flaw_after : (o : Option (List ℕ)) (a : Axes) (found : Option VolumeFault) → IfSome o (λ bytes. header_flaw bytes ≡ None)
    → IfSome o (λ bytes. a ≡ header_axes bytes)
    → IfSome (option_map (drop 32) o) (λ bytes. option_map fault_of (body_flaw a bytes) ≡ found)
    → IfSome o (λ bytes. option_map fault_of (volume_flaw bytes) ≡ found)
flaw_after None a found sound says flaw = tt
flaw_after (Some bytes) a found sound says flaw = ap (option_map fault_of) (sound_head bytes a sound says) ∙ flaw

sound_after : (o : Option (List ℕ)) (a : Axes) → IfSome o (λ bytes. header_flaw bytes ≡ None)
    → IfSome o (λ bytes. a ≡ header_axes bytes) → IfSome (option_map (drop 32) o) (λ bytes. body_flaw a bytes ≡ None)
    → IfSome o (λ bytes. volume_flaw bytes ≡ None)
sound_after None a sound says flaw = tt
sound_after (Some bytes) a sound says flaw = sound_head bytes a sound says ∙ flaw

says_after : (o : Option (List ℕ)) (a : Axes) (volume : Grid) → volume.axes ≡ a → IfSome o (λ bytes. a ≡ header_axes bytes)
    → IfSome (option_map (drop 32) o) (λ bytes. volume.bytes ≡ bytes) → IfSome o (λ bytes. volume ≡ volume_in bytes)
says_after None a volume same says body_is = tt
says_after (Some bytes) a volume same says body_is =
    let axes : volume.axes ≡ header_axes bytes = same ∙ says in
    λ i. record { axes = axes i; bytes = body_is i }

-- of a file whose header is sound the body is read, and one byte more
pub judged_after : (o : Option (List ℕ)) (a : Axes) → IfSome o (λ bytes. header_flaw bytes ≡ None)
    → IfSome o (λ bytes. a ≡ header_axes bytes) → IfSome o (λ bytes. 32 + (edge_count a + 1) ≡ judged_length bytes)
judged_after None a sound says = tt
judged_after (Some bytes) a sound says =
    ap (λ (x : Axes). 32 + (edge_count x + 1)) says
    ∙ sym (ap (λ (o : Option VolumeFlaw). if is_some o then 32 else (32 + (edge_count (header_axes bytes) + 1))) sound)

-- a header with this body after it is a file
pub whole_of : (a : Axes) (head rest : List ℕ) → IsHeader a head
    → (header_flaw (head ++ rest) ≡ None) × ((a ≡ header_axes (head ++ rest)) × (body (head ++ rest) ≡ rest))
whole_of a head rest is =
    let front : take 32 (head ++ rest) ≡ head = take_at head rest 32 is.long in (
      sym (header_flaw-front (head ++ rest)) ∙ (ap header_flaw front ∙ is.sound),
      (is.says ∙ (ap header_axes (sym front) ∙ header_axes-front (head ++ rest)), drop_at head rest 32 is.long),
    )

-- and its flaw is that of the body
possible_after : (a : Axes) (fault : VolumeFault) (head rest : List ℕ) → IsHeader a head → Tells fault (body_flaw a rest)
    → Tells fault (volume_flaw (head ++ rest))
possible_after a fault head rest is tells =
    let whole = whole_of a head rest is in
    ap (option_map fault_of) (sound_head (head ++ rest) a whole.0 whole.1.0 ∙ ap (body_flaw a) whole.1.1) ∙ tells

bad_after : (a : Axes) (fault : VolumeFault) (old now new : DeskState) → ReadsHead a old now → FindsBadBody a fault now new
    → FindsBadVolume fault old new
bad_after a fault old now new h f = record {
  possible = joined_bytes (possible_after a fault) h.header f.possible;
  flaw = flaw_after old.input a (Some fault) h.sound h.says
      (body_left old now (λ bytes. option_map fault_of (body_flaw a bytes) ≡ Some fault) h.after f.flaw);
  count = 32 + (edge_count a + 1);
  judged = judged_after old.input a h.sound h.says;
  after = f.after ∙ (ap (taken (edge_count a + 1)) h.after ∙ taken-taken 32 (edge_count a + 1) old);
}

within_judged : (o : Option (List ℕ)) (n : ℕ) → IfSome o (λ bytes. n ≡ judged_length bytes) → IfSome o (λ bytes. n ≤ judged_length bytes)
within_judged None n e = tt
within_judged (Some bytes) n e = omega arith

-- the header was read, and the body was not
pub no_body_after : (a : Axes) (fault : VolumeFault) (old now new : DeskState) → ReadsHead a old now
    → FailsToReadBody a fault now new → FailsToReadVolume fault old new
no_body_after a (Truncated got) old now new h f = bad_after a (Truncated got) old now new h f
no_body_after a Trailing old now new h f = bad_after a Trailing old now new h f
no_body_after a Read old now new h f = fails_later 32 (λ _. edge_count a + 1) judged_length old now new h.after
    (within_judged old.input (32 + (edge_count a + 1)) (judged_after old.input a h.sound h.says)) f
no_body_after a Memory old now new h f = takes_more 32 old now new h.after f
no_body_after a (ShortHeader got) old now new h f = absurd f
no_body_after a Magic old now new h f = absurd f
no_body_after a (Channels count) old now new h f = absurd f
no_body_after a Reserved old now new h f = absurd f
no_body_after a (AxisZero axis) old now new h f = absurd f
no_body_after a (AxisLarge axis) old now new h f = absurd f
no_body_after a TooMany old now new h f = absurd f

-- both were read
pub reads_volume : (a : Axes) (volume : Grid) (old now new : DeskState) → ReadsHead a old now → ReadsBody a volume now new
    → ReadsVolume volume old new
reads_volume a volume old now new h b = record {
  sound = sound_after old.input a h.sound h.says (body_left old now (λ bytes. body_flaw a bytes ≡ None) h.after b.sound);
  says = says_after old.input a volume b.axes_are h.says (body_left old now (λ bytes. volume.bytes ≡ bytes) h.after b.says);
  after = b.after ∙ emptied_later old now 32 h.after;
}

-- the input is still open after the header
pub open_after : (a : Axes) (old now : DeskState) → ReadsHead a old now → old.has_input ≡ true → now.has_input ≡ true
open_after a old now h open_before = ap (λ (s : DeskState). s.has_input) h.after ∙ open_before
