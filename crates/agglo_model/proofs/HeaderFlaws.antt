-- The flaw of a header of a tree file, by what is judged of it in turn.
use Rattle.std.proofs.Common.{◌≡◌, ℕ, ◌<◌, ◌≤◌, ◌==◌, nat_lt, nat_eq, Bool, true, false, if◌then◌else◌, List, length, Option, Some, None, refl, arith}
use Rattle.std.specs.List.{starts_with}
use Rattle.std.specs.Option.{option_map, option_or}
use Rattle.std.proofs.lemmas.Bool.Decides.{nat_tests}
use Rattle.std.proofs.lemmas.Bool.{lt-ltb, le-ltb}
use Rattle.agglo_model.specs.Axes.{AxesFlaw, axes_flaw, voxel_count}
use Rattle.agglo_model.specs.MergeTree.{tree_magic}
use Rattle.agglo_model.specs.VolumeFile.{header_length, header_axes}
use Rattle.agglo_model.specs.TreeFile.{TreeFlaw, ShortHeader, Magic, BadAxes, Denominator, Count, header_threshold, header_merges, header_flaw}

judged : Bool → Bool → Option AxesFlaw → Bool → Bool → ℕ → ℕ → Option TreeFlaw
judged short text axes zero few n merges =
    if short then Some (ShortHeader n)
    else (if text then option_or (option_map BadAxes axes) (if zero then Some Denominator else (if few then None else Some (Count merges)))
    else Some Magic)

flaw_is : (bytes : List ℕ) (short text : Bool) (axes : Option AxesFlaw) (zero few : Bool) → nat_lt (length bytes) header_length ≡ short
    → starts_with nat_eq bytes tree_magic ≡ text → axes_flaw (header_axes bytes) ≡ axes → ((header_threshold bytes).q == 0) ≡ zero
    → nat_lt (header_merges bytes) (voxel_count (header_axes bytes)) ≡ few
    → header_flaw bytes ≡ judged short text axes zero few (length bytes) (header_merges bytes)
unfolding header_flaw judged
flaw_is bytes short text axes zero few p q r s t = λ i. judged (p i) (q i) (r i) (s i) (t i) (length bytes) (header_merges bytes)

is_zero : (n : ℕ) → n ≡ 0 → (n == 0) ≡ true
is_zero n h = grind (arith, nat_tests)

not_zero : (n : ℕ) → 0 < n → (n == 0) ≡ false
not_zero n h = grind (arith, nat_tests)

pub short_flaw : (bytes : List ℕ) → length bytes < header_length → header_flaw bytes ≡ Some (ShortHeader (length bytes))
unfolding judged
short_flaw bytes p = flaw_is bytes true _ _ _ _ (lt-ltb (length bytes) header_length p) refl refl refl refl

pub magic_flaw : (bytes : List ℕ) → header_length ≤ length bytes → starts_with nat_eq bytes tree_magic ≡ false → header_flaw bytes ≡ Some Magic
unfolding judged
magic_flaw bytes p q = flaw_is bytes false false _ _ _ (le-ltb (length bytes) header_length p) q refl refl refl

pub bad_axes : (bytes : List ℕ) (flaw : AxesFlaw) → header_length ≤ length bytes → starts_with nat_eq bytes tree_magic ≡ true
    → axes_flaw (header_axes bytes) ≡ Some flaw → header_flaw bytes ≡ Some (BadAxes flaw)
unfolding judged
bad_axes bytes flaw p q r = flaw_is bytes false true (Some flaw) _ _ (le-ltb (length bytes) header_length p) q r refl refl

pub denominator_flaw : (bytes : List ℕ) → header_length ≤ length bytes → starts_with nat_eq bytes tree_magic ≡ true
    → axes_flaw (header_axes bytes) ≡ None → (header_threshold bytes).q ≡ 0 → header_flaw bytes ≡ Some Denominator
unfolding judged
denominator_flaw bytes p q r s =
    flaw_is bytes false true None true _ (le-ltb (length bytes) header_length p) q r (is_zero (header_threshold bytes).q s) refl

pub count_flaw : (bytes : List ℕ) → header_length ≤ length bytes → starts_with nat_eq bytes tree_magic ≡ true
    → axes_flaw (header_axes bytes) ≡ None → 0 < (header_threshold bytes).q → voxel_count (header_axes bytes) ≤ header_merges bytes
    → header_flaw bytes ≡ Some (Count (header_merges bytes))
unfolding judged
count_flaw bytes p q r s t =
    flaw_is bytes false true None false false (le-ltb (length bytes) header_length p) q r (not_zero (header_threshold bytes).q s)
    (le-ltb (header_merges bytes) (voxel_count (header_axes bytes)) t)

pub no_header_flaw : (bytes : List ℕ) → header_length ≤ length bytes → starts_with nat_eq bytes tree_magic ≡ true
    → axes_flaw (header_axes bytes) ≡ None → 0 < (header_threshold bytes).q → header_merges bytes < voxel_count (header_axes bytes)
    → header_flaw bytes ≡ None
unfolding judged
no_header_flaw bytes p q r s t =
    flaw_is bytes false true None false true (le-ltb (length bytes) header_length p) q r (not_zero (header_threshold bytes).q s)
    (lt-ltb (header_merges bytes) (voxel_count (header_axes bytes)) t)
