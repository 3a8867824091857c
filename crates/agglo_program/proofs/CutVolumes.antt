-- The states of a desk whose input is read as a volume that is to be cut: the header, and then the body.
use Rattle.std.proofs.Common.{◌≡◌, ◌==◌, ℕ, ◌+◌, ◌<◌, ◌≤◌, Bool, true, false, List, ◌++◌, drop, slice_index, Option, Some, None, IfSome, is_some, refl, sym, ap, subst, ◌∙◌, arith, if◌then◌else◌}
use Rattle.std.specs.Option.{option_map, option_or, option_and_then}
use Rattle.std.proofs.lemmas.Bool.Decides.{nat_tests}
use Rattle.agglo_model.specs.Axes.{Axes, edge_count}
use Rattle.agglo_model.specs.Grid.{Grid}
use Rattle.agglo_model.specs.Cutting.{Chunking, SizesFlaw, ChunkZero, TooManyLeaves, sizes_flaw, chunking}
use Rattle.agglo_model.specs.VolumeFile.{VolumeFlaw, header_length, header_axes, header_flaw, body, body_flaw}
use Rattle.chunk_tree.specs.Flaw.{flaw_of}
use Rattle.chunk_tree.specs.declared.cutting.CutFault.{CutFault}
use Rattle.chunk_tree.specs.declared.cutting.CutFault.TheVariants as faults
use Rattle.command_words.specs.Words.{AreSomeSizes}
use Rattle.seg_io.specs.Desk.{DeskState, taken, OpensInput}
use Rattle.volume_file.specs.declared.fault.VolumeFault.{VolumeFault}
use Rattle.volume_file.specs.declared.fault.VolumeFault.TheVariants.{ShortHeader, Magic, Channels, Reserved, AxisZero, AxisLarge, TooMany, Truncated, Trailing, Read, Memory}
use Rattle.volume_file.specs.Fault.{fault_of}
use Rattle.volume_file.specs.Reading.{IsHeader, Tells, ReadsHead, FindsBadHead, FailsToReadHead, ReadsBody, FindsBadBody, FailsToReadBody, judged_length}
use Rattle.seg_io.proofs.Bytes.{same_bytes, joined_bytes}
use Rattle.seg_io.proofs.States.{for_some, taken-taken}
use Rattle.seg_io.proofs.InputStates.{fails_later, fails_sooner}
use Rattle.volume_file.proofs.Whole.{judged_after, whole_of, reads_volume as whole_volume}
use Rattle.refusals.specs.declared.refusal.Refusal.{Refusal}
use Rattle.refusals.specs.declared.refusal.Refusal.TheVariants.{Volume, Leaves}
use Rattle.refusals.specs.Refusal.{volume_refusal}
use Rattle.agglo_program.specs.Answers.{ReadsCutVolume}
use Rattle.agglo_program.specs.Flaws.{volume_flaw_refusal, sizes_refusal, leaves_refusal, segment_refusal, segment_judged, RefusesInput, RefusesNumbers}
use Rattle.agglo_program.proofs.ReadFile.{if_some, if_both, any_bytes, opens_file, judges_file, fails_to_read, reads_volume, told_flaw}

-- ---- the number of leaves

not_zero : (n : ℕ) → 0 < n → (n == 0) ≡ false
not_zero n h = grind (arith, nat_tests)

judged : Bool → Bool → Bool → Option SizesFlaw → Option SizesFlaw
judged x y z later =
    if x then Some (ChunkZero 0)
    else (if y then Some (ChunkZero 1)
    else (if z then Some (ChunkZero 2)
    else later))

-- sizes that are not 0 have no flaw but too many leaves
never_zero : (x y z many : Bool) (leaves axis : ℕ) → x ≡ false → y ≡ false → z ≡ false
    → judged x y z (if many then Some (TooManyLeaves leaves) else None) ≡ Some (ChunkZero axis) → ⊥
unfolding judged
never_zero true y z many leaves axis p q r e = cc p
never_zero false true z many leaves axis p q r e = cc q
never_zero false false true many leaves axis p q r e = cc r
never_zero false false false true leaves axis p q r e = cc e
never_zero false false false false leaves axis p q r e = cc e

pub no_zero : (axes : Axes) (chunk : List ℕ) (fault : CutFault) (axis : ℕ) → AreSomeSizes chunk → fault ≡ faults.ChunkZero axis
    → sizes_flaw axes chunk ≡ Some (flaw_of fault) → ⊥
unfolding sizes_flaw judged
no_zero axes chunk fault axis some is e = never_zero _ _ _ _ _ axis (not_zero (slice_index chunk 0) some.x)
    (not_zero (slice_index chunk 1) some.y) (not_zero (slice_index chunk 2) some.z)
    (e ∙ ap (λ (f : CutFault). Some (flaw_of f)) is)

-- what a cutting answers is what the leaves are refused for
pub too_many : (axes : Axes) (chunk : List ℕ) (fault : CutFault) (leaves : ℕ) → fault ≡ faults.TooManyLeaves leaves
    → sizes_flaw axes chunk ≡ Some (flaw_of fault) → leaves_refusal axes chunk ≡ Some (Leaves leaves)
too_many axes chunk fault leaves is e = ap (option_and_then sizes_refusal) (e ∙ ap (λ (f : CutFault). Some (flaw_of f)) is)

leaves_are : (flaw : Option SizesFlaw) (refusal : Refusal) → option_and_then sizes_refusal flaw ≡ Some refusal
    → (leaves : ℕ) × (Leaves leaves ≡ refusal)
leaves_are None refusal e = cc e
leaves_are (Some (ChunkZero axis)) refusal e = cc e
leaves_are (Some (TooManyLeaves leaves)) refusal e = (leaves, cc e)

-- nothing was read yet
pub refused_numbers : (axes : Axes) (chunk : List ℕ) (refusal : Refusal) (s : DeskState) → leaves_refusal axes chunk ≡ Some refusal
    → RefusesNumbers (leaves_refusal axes chunk) refusal s s
refused_numbers axes chunk refusal s e =
    let are = leaves_are (sizes_flaw axes chunk) refusal e in
    subst (λ (f : Refusal). RefusesNumbers (leaves_refusal axes chunk) f s s) are.1 (e ∙ ap (λ (f : Refusal). Some f) (sym are.1), refl)

-- ---- a header with a flaw

first_flaw : (flaw : Option VolumeFlaw) (later : Option Refusal) (fault : VolumeFault) → option_map fault_of flaw ≡ Some fault
    → option_or (volume_flaw_refusal flaw) later ≡ Some (Volume fault)
first_flaw None later fault e = cc e
first_flaw (Some flaw) later fault e = ap (option_map Volume) e

-- where the header has a flaw, nothing after it is taken
head_judged : (leaves : Option Refusal) (flaw : Option VolumeFlaw) (n : ℕ) (fault : VolumeFault) → option_map fault_of flaw ≡ Some fault
    → header_length ≡ (if is_some leaves then header_length else (if is_some flaw then header_length else n))
head_judged leaves None n fault e = cc e
head_judged None (Some flaw) n fault e = refl
head_judged (Some leaves) (Some flaw) n fault e = refl

-- the header is always taken
head_first : (leaves : Option Refusal) (flaw : Option VolumeFlaw) (n : ℕ)
    → header_length ≤ (if is_some leaves then header_length else (if is_some flaw then header_length else (header_length + n)))
head_first (Some leaves) flaw n = omega arith
head_first None (Some flaw) n = omega arith
head_first None None n = omega arith

bad_head : (name chunk : List ℕ) (fault : VolumeFault) (s t u : DeskState) → OpensInput name s t → FindsBadHead fault t u
    → RefusesInput (segment_refusal chunk) (segment_judged chunk) name (Volume fault) s u
bad_head name chunk fault s t u o f = (
  same_bytes (λ bytes. first_flaw (header_flaw bytes) _ fault) f.possible,
  judges_file name _ (segment_judged chunk) header_length s t u o
      (if_some t.input _ _ (λ bytes e. first_flaw (header_flaw bytes) _ fault e) f.flaw)
      (if_some t.input _ (λ bytes. header_length ≡ segment_judged chunk bytes)
      (λ bytes e. head_judged (leaves_refusal (header_axes bytes) chunk) (header_flaw bytes) _ fault e) f.flaw) f.after,
)

pub no_head : (name chunk : List ℕ) (fault : VolumeFault) (s t u : DeskState) → OpensInput name s t → FailsToReadHead fault t u
    → RefusesInput (segment_refusal chunk) (segment_judged chunk) name (volume_refusal fault) s u
no_head name chunk Read s t u o f = fails_to_read (segment_judged chunk) name s t u o (fails_sooner (λ _. header_length) (segment_judged chunk) t u
    (for_some t.input (λ bytes. header_length ≤ segment_judged chunk bytes)
    (λ bytes. head_first (leaves_refusal (header_axes bytes) chunk) (header_flaw bytes) (edge_count (header_axes bytes) + 1))) f)
no_head name chunk Memory s t u o f = absurd f
no_head name chunk (ShortHeader got) s t u o f = bad_head name chunk _ s t u o f
no_head name chunk Magic s t u o f = bad_head name chunk _ s t u o f
no_head name chunk (Channels count) s t u o f = bad_head name chunk _ s t u o f
no_head name chunk Reserved s t u o f = bad_head name chunk _ s t u o f
no_head name chunk (AxisZero axis) s t u o f = bad_head name chunk _ s t u o f
no_head name chunk (AxisLarge axis) s t u o f = bad_head name chunk _ s t u o f
no_head name chunk TooMany s t u o f = bad_head name chunk _ s t u o f
no_head name chunk (Truncated got) s t u o f = absurd f
no_head name chunk Trailing s t u o f = absurd f

-- ---- a sound header

-- what is refused after a sound header
after_head : (axes : Axes) (chunk bytes : List ℕ) → header_flaw bytes ≡ None → axes ≡ header_axes bytes
    → segment_refusal chunk bytes ≡ option_or (leaves_refusal axes chunk) (volume_flaw_refusal (body_flaw axes (body bytes)))
after_head axes chunk bytes sound says =
    ap (λ (f : Option VolumeFlaw). option_or (volume_flaw_refusal f) (option_or (leaves_refusal (header_axes bytes) chunk) (volume_flaw_refusal (body_flaw (header_axes bytes) (body bytes))))) sound
    ∙ ap (λ (a : Axes). option_or (leaves_refusal a chunk) (volume_flaw_refusal (body_flaw a (body bytes)))) (sym says)

leaves_flaw : (axes : Axes) (chunk : List ℕ) (leaves : ℕ) (bytes : List ℕ) → leaves_refusal axes chunk ≡ Some (Leaves leaves)
    → header_flaw bytes ≡ None → axes ≡ header_axes bytes → segment_refusal chunk bytes ≡ Some (Leaves leaves)
leaves_flaw axes chunk leaves bytes e sound says = after_head axes chunk bytes sound says
    ∙ ap (λ (l : Option Refusal). option_or l (volume_flaw_refusal (body_flaw axes (body bytes)))) e

-- where there are too many leaves, nothing after the header is taken
leaves_judged : (axes : Axes) (chunk : List ℕ) (leaves : ℕ) (bytes : List ℕ) → axes ≡ header_axes bytes
    → leaves_refusal axes chunk ≡ Some (Leaves leaves) → header_length ≡ segment_judged chunk bytes
leaves_judged axes chunk leaves bytes says e =
    sym (ap (λ (l : Option Refusal). if is_some l then header_length else judged_length bytes) (ap (λ (a : Axes). leaves_refusal a chunk) (sym says) ∙ e))

many_leaves : (name chunk : List ℕ) (axes : Axes) (leaves : ℕ) (s t u : DeskState) → OpensInput name s t → ReadsHead axes t u
    → leaves_refusal axes chunk ≡ Some (Leaves leaves)
    → RefusesInput (segment_refusal chunk) (segment_judged chunk) name (Leaves leaves) s u
many_leaves name chunk axes leaves s t u o r e = (
  same_bytes (λ bytes is. leaves_flaw axes chunk leaves bytes e is.sound is.says) r.header,
  judges_file name _ (segment_judged chunk) header_length s t u o
      (if_both t.input _ _ _ (λ bytes sound says. leaves_flaw axes chunk leaves bytes e sound says) r.sound r.says)
      (if_some t.input _ (λ bytes. header_length ≡ segment_judged chunk bytes) (λ bytes says. leaves_judged axes chunk leaves bytes says e) r.says) r.after,
)

pub refused_leaves : (name chunk : List ℕ) (axes : Axes) (refusal : Refusal) (s t u : DeskState) → OpensInput name s t → ReadsHead axes t u
    → leaves_refusal axes chunk ≡ Some refusal → RefusesInput (segment_refusal chunk) (segment_judged chunk) name refusal s u
refused_leaves name chunk axes refusal s t u o r e =
    let are = leaves_are (sizes_flaw axes chunk) refusal e in
    subst (λ (f : Refusal). RefusesInput (segment_refusal chunk) (segment_judged chunk) name f s u) are.1
    (many_leaves name chunk axes are.0 s t u o r (e ∙ ap (λ (f : Refusal). Some f) (sym are.1)))

-- ---- a body

-- what holds of the input after the header holds of the body
of_body : (o : Option (List ℕ)) (P : List ℕ → Type 0) → IfSome (option_map (drop header_length) o) P → IfSome o (λ bytes. P (body bytes))
of_body None P h = tt
of_body (Some bytes) P h = h

body_input : (axes : Axes) (t u : DeskState) (P : List ℕ → Type 0) → ReadsHead axes t u → IfSome u.input P → IfSome t.input (λ bytes. P (body bytes))
body_input axes t u P r h = of_body t.input P (subst (λ (i : Option (List ℕ)). IfSome i P) (ap (λ (z : DeskState). z.input) r.after) h)

-- where both are sound, all that the header claims is taken, and one byte more
body_judged : (axes : Axes) (chunk : List ℕ) (t u : DeskState) → ReadsHead axes t u → leaves_refusal axes chunk ≡ None
    → IfSome t.input (λ bytes. header_length + (edge_count axes + 1) ≡ segment_judged chunk bytes)
body_judged axes chunk t u r few =
    if_both t.input (λ bytes. axes ≡ header_axes bytes) (λ bytes. header_length + (edge_count axes + 1) ≡ judged_length bytes) _
    (λ bytes says same. same ∙ sym (ap (λ (l : Option Refusal). if is_some l then header_length else judged_length bytes)
    (ap (λ (a : Axes). leaves_refusal a chunk) (sym says) ∙ few)))
    r.says (judged_after t.input axes r.sound r.says)

only_body : (axes : Axes) (chunk bytes : List ℕ) → leaves_refusal axes chunk ≡ None → header_flaw bytes ≡ None → axes ≡ header_axes bytes
    → segment_refusal chunk bytes ≡ volume_flaw_refusal (body_flaw axes (body bytes))
only_body axes chunk bytes few sound says = after_head axes chunk bytes sound says
    ∙ ap (λ (l : Option Refusal). option_or l (volume_flaw_refusal (body_flaw axes (body bytes)))) few

-- the header with a body that has the flaw
possible_after : (chunk : List ℕ) (axes : Axes) (fault : VolumeFault) → leaves_refusal axes chunk ≡ None → (head rest : List ℕ)
    → IsHeader axes head → Tells fault (body_flaw axes rest) → segment_refusal chunk (head ++ rest) ≡ Some (Volume fault)
possible_after chunk axes fault few head rest is tells =
    let whole = whole_of axes head rest is in
    only_body axes chunk (head ++ rest) few whole.0 whole.1.0
    ∙ (ap (λ (bytes : List ℕ). volume_flaw_refusal (body_flaw axes bytes)) whole.1.1 ∙ told_flaw (body_flaw axes rest) fault tells)

bad_body : (name chunk : List ℕ) (axes : Axes) (fault : VolumeFault) (s t u v : DeskState) → OpensInput name s t → ReadsHead axes t u
    → leaves_refusal axes chunk ≡ None → FindsBadBody axes fault u v
    → RefusesInput (segment_refusal chunk) (segment_judged chunk) name (Volume fault) s v
bad_body name chunk axes fault s t u v o r few f =
    let flaw = body_input axes t u (λ bytes. option_map fault_of (body_flaw axes bytes) ≡ Some fault) r f.flaw in
    let judged = if_both t.input _ _ (λ bytes. segment_refusal chunk bytes ≡ volume_flaw_refusal (body_flaw axes (body bytes)))
    (λ bytes sound says. only_body axes chunk bytes few sound says) r.sound r.says in (
      joined_bytes (possible_after chunk axes fault few) r.header f.possible,
      judges_file name _ (segment_judged chunk) (header_length + (edge_count axes + 1)) s t v o
          (if_both t.input _ _ _ (λ bytes e k. e ∙ told_flaw (body_flaw axes (body bytes)) fault k) judged flaw)
          (body_judged axes chunk t u r few)
          (f.after ∙ (ap (taken (edge_count axes + 1)) r.after ∙ taken-taken header_length (edge_count axes + 1) t)),
    )

pub no_body : (name chunk : List ℕ) (axes : Axes) (fault : VolumeFault) (s t u v : DeskState) → OpensInput name s t → ReadsHead axes t u
    → leaves_refusal axes chunk ≡ None → FailsToReadBody axes fault u v
    → RefusesInput (segment_refusal chunk) (segment_judged chunk) name (volume_refusal fault) s v
no_body name chunk axes Read s t u v o r few f = fails_to_read (segment_judged chunk) name s t v o
    (fails_later header_length (λ _. edge_count axes + 1) (segment_judged chunk) t u v r.after
    (if_some t.input _ (λ bytes. header_length + (edge_count axes + 1) ≤ segment_judged chunk bytes) (λ bytes same. omega arith)
    (body_judged axes chunk t u r few)) f)
no_body name chunk axes Memory s t u v o r few f = opens_file name _ s t v _ o (any_bytes t.input) (f.after ∙ ap (taken f.count) r.after)
no_body name chunk axes (Truncated got) s t u v o r few f = bad_body name chunk axes _ s t u v o r few f
no_body name chunk axes Trailing s t u v o r few f = bad_body name chunk axes _ s t u v o r few f
no_body name chunk axes (ShortHeader got) s t u v o r few f = absurd f
no_body name chunk axes Magic s t u v o r few f = absurd f
no_body name chunk axes (Channels count) s t u v o r few f = absurd f
no_body name chunk axes Reserved s t u v o r few f = absurd f
no_body name chunk axes (AxisZero axis) s t u v o r few f = absurd f
no_body name chunk axes (AxisLarge axis) s t u v o r few f = absurd f
no_body name chunk axes TooMany s t u v o r few f = absurd f

pub reads_cut_volume : (name chunk : List ℕ) (axes : Axes) (volume : Grid) (cutting : Chunking) (s t u v : DeskState) → OpensInput name s t
    → ReadsHead axes t u → leaves_refusal axes chunk ≡ None → cutting ≡ chunking axes chunk → ReadsBody axes volume u v
    → ReadsCutVolume name chunk volume cutting s v
reads_cut_volume name chunk axes volume cutting s t u v o r few is b = record {
  read = reads_volume name volume s t v o (whole_volume axes volume t u v r b);
  cutting_is = is ∙ ap (λ (a : Axes). chunking a chunk) (sym b.axes_are);
  few_leaves = subst (λ (a : Axes). leaves_refusal a chunk ≡ None) (sym b.axes_are) few;
}
