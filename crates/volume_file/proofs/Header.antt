-- The header of a volume file.
use Rattle.std.proofs.Common.{◌≡◌, ℕ, ◌+◌, ◌<◌, ◌≤◌, ◌==◌, nat_lt, nat_eq, Bool, true, false, cond, List, length, take, drop, min, sum, Option, Some, None, IfSome, refl, sym, ap, ◌∙◌, subst, arith, inl, inr}
use Rattle.std.specs.List.{list_all, starts_with}
use Rattle.std.specs.Cmp.Lexicographic.{pointwise}
use Rattle.std.specs.Option.{option_map}
use Rattle.std.proofs.lemmas.Bool.{cases_lt}
use Rattle.std.proofs.lemmas.Bool.Decides.{nat_tests}
use Rattle.std.proofs.lemmas.List.{take-take, drop-take, take_all, take_min, length-take, get_or-take}
use Rattle.std.proofs.lemmas.List.Folds.{sum_by-zero}
use Rattle.agglo_model.specs.Axes.{Axes, AxesFlaw, AxisZero, AxisLarge, TooMany, axes_flaw}
use Rattle.agglo_model.specs.VolumeFile.{VolumeFlaw, ShortHeader, Magic, Channels, Reserved, BadAxes, Truncated, Trailing, of_axes, volume_magic, u32_at, header_axes, channels, reserved, header_flaw}
use Rattle.seg_io.specs.Desk.{DeskState, Fills}
use Rattle.volume_file.specs.declared.fault.VolumeFault.{VolumeFault}
use Rattle.volume_file.specs.Fault.{fault_of}
use Rattle.volume_file.specs.Reading.{ReadsHead, FindsBadHead, FailsToReadHead}
use Rattle.seg_io.proofs.InputStates.{taken-min}

-- numbers add up to 0 exactly where each of them is 0
pub all_zero : (xs : List ℕ) → list_all (λ x. x == 0) xs ≡ (sum xs == 0)
all_zero xs = sym (sum_by-zero (λ x. x) xs)

-- a field of the first 32 bytes is that of all
u32_at-front : (bytes : List ℕ) (k : ℕ) → k + 3 < 32 → u32_at k (take 32 bytes) ≡ u32_at k bytes
u32_at-front bytes k lt =
    let first = get_or-take 32 bytes k 0 (omega arith) in
    let second = get_or-take 32 bytes (k + 1) 0 (omega arith) in
    let third = get_or-take 32 bytes (k + 2) 0 (omega arith) in
    let fourth = get_or-take 32 bytes (k + 3) 0 lt in
    rw (first, second, third, fourth) refl

pub header_axes-front : (bytes : List ℕ) → header_axes (take 32 bytes) ≡ header_axes bytes
header_axes-front bytes =
    let x = u32_at-front bytes 8 (omega arith) in
    let y = u32_at-front bytes 12 (omega arith) in
    let z = u32_at-front bytes 16 (omega arith) in
    λ i. record { nx = x i; ny = y i; nz = z i }

-- the flaw of a header by its parts
abbrev by_parts : (short magic three zero : Bool) (count got : ℕ) (a : Axes) → Option VolumeFlaw
by_parts short magic three zero count got a =
    cond short (Some (ShortHeader got)) (cond magic (cond three (cond zero (of_axes (axes_flaw a)) (Some Reserved)) (Some (Channels count))) (Some Magic))

header_by_parts : (bytes : List ℕ)
    → header_flaw bytes
    ≡ by_parts (nat_lt (length bytes) 32) (starts_with nat_eq bytes volume_magic) (channels bytes == 3)
    (sum (reserved bytes) == 0) (channels bytes) (length bytes) (header_axes bytes)
unfolding header_flaw
header_by_parts bytes = refl

equal_parts : (s s' m m' t t' z z' : Bool) (c c' g g' : ℕ) (a a' : Axes) → s' ≡ false → s ≡ false → m' ≡ m → t' ≡ t
    → z' ≡ z → c' ≡ c → a' ≡ a → by_parts s' m' t' z' c' g' a' ≡ by_parts s m t z c g a
equal_parts s s' m m' t t' z z' c c' g g' a a' es' es em et ez ec ea = rw (es', es, em, et, ez, ec, ea) refl

is_long : (n : ℕ) → 32 ≤ n → nat_lt n 32 ≡ false
is_long n long = grind (arith, nat_tests)

-- the flaw of the first 32 bytes is that of all
long_front : (bytes : List ℕ) → 32 ≤ length bytes → header_flaw (take 32 bytes) ≡ header_flaw bytes
long_front bytes long =
    let text : take 8 (take 32 bytes) ≡ take 8 bytes = take-take 8 32 bytes (omega arith) in
    let count : channels (take 32 bytes) ≡ channels bytes = u32_at-front bytes 20 (omega arith) in
    let zeros : reserved (take 32 bytes) ≡ reserved bytes =
    ap (λ (xs : List ℕ). take 8 xs) (drop-take 24 8 bytes) ∙ take-take 8 8 (drop 24 bytes) (omega arith) in
    let whole : length (take 32 bytes) ≡ 32 = omega (arith, length-take 32 bytes) in
    header_by_parts (take 32 bytes)
    ∙ (equal_parts _ _ _ _ _ _ _ _ _ _ (length bytes) (length (take 32 bytes)) _ _
    (is_long (length (take 32 bytes)) (omega arith)) (is_long (length bytes) long)
    (ap (λ (xs : List ℕ). pointwise nat_eq volume_magic xs) text) (ap (λ (n : ℕ). n == 3) count)
    (ap (λ (xs : List ℕ). sum xs == 0) zeros) count (header_axes-front bytes)
    ∙ sym (header_by_parts bytes))

pub header_flaw-front : (bytes : List ℕ) → header_flaw (take 32 bytes) ≡ header_flaw bytes
header_flaw-front bytes =
    elim (cases_lt (length bytes) 32) [ inl short ↦ ap header_flaw (take_all 32 bytes (omega arith)) | inr long ↦ long_front bytes long ]

sound_is_long : (bytes : List ℕ) → header_flaw bytes ≡ None → 32 ≤ length bytes
sound_is_long bytes sound = by_parts-long (nat_lt (length bytes) 32) (starts_with nat_eq bytes volume_magic) (channels bytes == 3)
    (sum (reserved bytes) == 0) (channels bytes) (length bytes) (header_axes bytes) refl (sym (header_by_parts bytes) ∙ sound)
  where
    by_parts-long : (short magic three zero : Bool) (count got : ℕ) (a : Axes) → nat_lt got 32 ≡ short
        → by_parts short magic three zero count got a ≡ None → 32 ≤ got
    by_parts-long true magic three zero count got a e none = cc none
    by_parts-long false magic three zero count got a e none = grind (arith, nat_tests)

-- the flaws that a header may have
abbrev IsHeadFlaw : Option VolumeFlaw → Type 0
IsHeadFlaw (Some (Truncated got)) = ⊥
IsHeadFlaw (Some Trailing) = ⊥
IsHeadFlaw flaw = Unit {0}

of_axes-head : (o : Option AxesFlaw) → IsHeadFlaw (of_axes o)
of_axes-head None = tt
of_axes-head (Some flaw) = tt

by_parts-head : (short magic three zero : Bool) (count got : ℕ) (a : Axes) → IsHeadFlaw (by_parts short magic three zero count got a)
by_parts-head true magic three zero count got a = tt
by_parts-head false false three zero count got a = tt
by_parts-head false true false zero count got a = tt
by_parts-head false true true false count got a = tt
by_parts-head false true true true count got a = of_axes-head (axes_flaw a)

header_flaw-head : (bytes : List ℕ) → IsHeadFlaw (header_flaw bytes)
header_flaw-head bytes = subst IsHeadFlaw (sym (header_by_parts bytes))
    (by_parts-head (nat_lt (length bytes) 32) (starts_with nat_eq bytes volume_magic) (channels bytes == 3)
    (sum (reserved bytes) == 0) (channels bytes) (length bytes) (header_axes bytes))

tells : (fault other : VolumeFault) (old new : DeskState) → fault ≡ other
    → (FindsBadHead other old new → FailsToReadHead other old new) → FindsBadHead fault old new → FailsToReadHead fault old new
tells fault other old new e pass =
    subst (λ (x : VolumeFault). FindsBadHead x old new → FailsToReadHead x old new) (sym e) pass

-- a fault of the desk or of the body tells of no flaw of a header
bad_head : (o : Option VolumeFlaw) (fault : VolumeFault) (old new : DeskState) → IsHeadFlaw o
    → option_map fault_of o ≡ Some fault → FindsBadHead fault old new → FailsToReadHead fault old new
bad_head None fault old new h e f = absurd (cc)
bad_head (Some (ShortHeader got)) fault old new h e f = tells fault (fault_of (ShortHeader got)) old new (cc) (λ g. g) f
bad_head (Some Magic) fault old new h e f = tells fault (fault_of Magic) old new (cc) (λ g. g) f
bad_head (Some (Channels count)) fault old new h e f = tells fault (fault_of (Channels count)) old new (cc) (λ g. g) f
bad_head (Some Reserved) fault old new h e f = tells fault (fault_of Reserved) old new (cc) (λ g. g) f
bad_head (Some (BadAxes (AxisZero axis))) fault old new h e f = tells fault (fault_of (BadAxes (AxisZero axis))) old new (cc) (λ g. g) f
bad_head (Some (BadAxes (AxisLarge axis))) fault old new h e f = tells fault (fault_of (BadAxes (AxisLarge axis))) old new (cc) (λ g. g) f
bad_head (Some (BadAxes TooMany)) fault old new h e f = tells fault (fault_of (BadAxes TooMany)) old new (cc) (λ g. g) f
bad_head (Some (Truncated got)) fault old new h e f = absurd h
bad_head (Some Trailing) fault old new h e f = absurd h

-- the bytes that a buffer was filled with are the first of the input
front_of : (o : Option (List ℕ)) (k : ℕ) (filled : List ℕ) (P : List ℕ → List ℕ → Type 0)
    → IfSome o (λ bytes. take k filled ≡ take k bytes) → IfSome o (λ bytes. k ≡ min 32 (length bytes))
    → ((bytes : List ℕ) → take k filled ≡ take 32 bytes → P (take k filled) bytes)
    → IfSome o (λ bytes. P (take k filled) bytes)
front_of None k filled P front all each = tt
front_of (Some bytes) k filled P front all each =
    each bytes (front ∙ (ap (λ (m : ℕ). take m bytes) all ∙ take_min 32 bytes))

-- the header that was read is sound
pub reads_head : (k : ℕ) (buffer filled : List ℕ) (axes : Axes) (old new : DeskState) → length buffer ≡ 32
    → Fills k buffer filled old new → header_flaw (take k filled) ≡ None → axes ≡ header_axes (take k filled)
    → ReadsHead axes old new
reads_head k buffer filled axes old new room fills sound says =
    let all : IfSome old.input (λ bytes. k ≡ min 32 (length bytes)) =
    subst (λ (n : ℕ). IfSome old.input (λ bytes. k ≡ min n (length bytes))) room fills.all in
    record {
      header = record {
        bytes = take k filled;
        fit = fills.fit;
        holds = record {
          long = omega (arith, fills.room, room, length-take k filled, sound_is_long (take k filled) sound);
          sound = sound;
          says = says;
        };
      };
      sound = front_of old.input k filled (λ _ bytes. header_flaw bytes ≡ None) fills.front all
          (λ bytes e. sym (header_flaw-front bytes) ∙ (ap header_flaw (sym e) ∙ sound));
      says = front_of old.input k filled (λ _ bytes. axes ≡ header_axes bytes) fills.front all
          (λ bytes e. says ∙ (ap header_axes e ∙ header_axes-front bytes));
      after = fills.after ∙ taken-min old 32 k all;
    }

-- the header that was read, or what there was of it, has a flaw
pub finds_bad_head : (k : ℕ) (buffer filled : List ℕ) (fault : VolumeFault) (old new : DeskState) → length buffer ≡ 32
    → Fills k buffer filled old new → option_map fault_of (header_flaw (take k filled)) ≡ Some fault
    → FailsToReadHead fault old new
finds_bad_head k buffer filled fault old new room fills flaw =
    let all : IfSome old.input (λ bytes. k ≡ min 32 (length bytes)) =
    subst (λ (n : ℕ). IfSome old.input (λ bytes. k ≡ min n (length bytes))) room fills.all in
    bad_head (header_flaw (take k filled)) fault old new (header_flaw-head (take k filled)) flaw record {
      possible = record { bytes = take k filled; fit = fills.fit; holds = flaw };
      flaw = front_of old.input k filled (λ _ bytes. option_map fault_of (header_flaw bytes) ≡ Some fault) fills.front all
          (λ bytes e. ap (option_map fault_of) (sym (header_flaw-front bytes) ∙ ap header_flaw (sym e)) ∙ flaw);
      after = fills.after ∙ taken-min old 32 k all;
    }
