-- The file of a volume has no flaw, and holds the volume; and bytes without a flaw are the file of what they hold.
use Rattle.std.proofs.Common.{◌≡◌, ℕ, ◌+◌, ◌<◌, ◌≤◌, ◌==◌, nat_lt, nat_eq, Bool, true, false, if◌then◌else◌, List, length, sum, Option, Some, None, refl, sym, ap, ◌∙◌, subst, arith}
use Rattle.std.specs.Prelude.{All}
use Rattle.std.specs.List.{starts_with}
use Rattle.std.proofs.lemmas.Bool.Decides.{nat_tests}
use Rattle.std.proofs.lemmas.List.{get_or-drop}
use Rattle.std.proofs.lemmas.Bool.{le-ltb}
use Rattle.agglo_model.specs.Axes.{Axes, AxesFlaw, IsWithinLimits, axes_flaw, edge_count}
use Rattle.agglo_model.specs.Grid.{Grid}
use Rattle.agglo_model.specs.LabelFile.{u32_bytes}
use Rattle.agglo_model.specs.VolumeFile.{VolumeFlaw, ShortHeader, Magic, Channels, Reserved, of_axes, volume_magic, header_length, header_axes, channels, reserved, body, header_flaw, body_flaw, volume_header, volume_bytes, first_of_two}
use Rattle.agglo_model.specs.VolumeLaws.{VolumesReadBack, SoundFilesHoldVolumes}
use Rattle.agglo_model.proofs.AxesLimits.{within_limits, no_flaw as no_axes_flaw}
use Rattle.agglo_model.proofs.Digits.{four_digits}
use Rattle.agglo_model.proofs.FileParts.{Stands, joined, fits, text_stands, zeros_stand, u32_stands, axes_stand}

axes_back : (volume : Grid) → IsWithinLimits volume.axes → header_axes (volume_bytes volume) ≡ volume.axes
axes_back volume limits =
    let nx = four_digits volume.axes.nx (omega (arith, limits.most_x)) in
    let ny = four_digits volume.axes.ny (omega (arith, limits.most_y)) in
    let nz = four_digits volume.axes.nz (omega (arith, limits.most_z)) in
    λ i. record { nx = nx i; ny = ny i; nz = nz i }

-- a header that passes each test has no flaw
no_header_flaw : (bytes : List ℕ) → nat_lt (length bytes) header_length ≡ false → starts_with nat_eq bytes volume_magic ≡ true
    → (channels bytes == 3) ≡ true → (sum (reserved bytes) == 0) ≡ true → axes_flaw (header_axes bytes) ≡ None
    → header_flaw bytes ≡ None
unfolding header_flaw
no_header_flaw bytes long text three zero axes =
    λ i. if long i then Some (ShortHeader (length bytes))
    else (if text i then
    (if three i then
    (if zero i then of_axes (axes i)
    else Some Reserved)
    else Some (Channels (channels bytes)))
    else Some Magic)

pub no_body_flaw : (axes : Axes) (bytes : List ℕ) → length bytes ≡ edge_count axes → body_flaw axes bytes ≡ None
unfolding body_flaw
no_body_flaw axes bytes counted = grind (arith, nat_tests, counted)

pub volumes_read_back : VolumesReadBack
volumes_read_back volume whole =
    let axes = axes_back volume whole.limits in
    let header = no_header_flaw (volume_bytes volume) (le-ltb (length (volume_bytes volume)) header_length (omega arith))
    refl refl refl (ap axes_flaw axes ∙ no_axes_flaw volume.axes whole.limits) in
    let body = ap (λ a. body_flaw a volume.bytes) axes ∙ no_body_flaw volume.axes volume.bytes whole.whole_body in
    ((λ i. first_of_two (header i) (body i)), λ i. record { axes = axes i; bytes = volume.bytes })

-- and back: what a header without a flaw passes
record PassesTests (bytes : List ℕ) : Type 0 where
  long : header_length ≤ length bytes
  text : starts_with nat_eq bytes volume_magic ≡ true
  three : channels bytes ≡ 3
  zero : sum (reserved bytes) ≡ 0
  axes : axes_flaw (header_axes bytes) ≡ None

of_axes_none : (axes : Option AxesFlaw) → of_axes axes ≡ None → axes ≡ None
of_axes_none None e = refl
of_axes_none (Some flaw) e = absurd (cc)

tests_passed : (short text three zero : Bool) (axes : Option AxesFlaw) (w x y z : VolumeFlaw)
    → (if short then Some w else (if text then (if three then (if zero then of_axes axes else Some x) else Some y) else Some z)) ≡ None
    → (short ≡ false) × (text ≡ true) × (three ≡ true) × (zero ≡ true) × (axes ≡ None)
tests_passed true text three zero axes w x y z e = absurd (cc)
tests_passed false false three zero axes w x y z e = absurd (cc)
tests_passed false true false zero axes w x y z e = absurd (cc)
tests_passed false true true false axes w x y z e = absurd (cc)
tests_passed false true true true axes w x y z e = (refl, refl, refl, refl, of_axes_none axes e)

sound_header : (bytes : List ℕ) → header_flaw bytes ≡ None → PassesTests bytes
unfolding header_flaw
sound_header bytes e =
    let tests = tests_passed (nat_lt (length bytes) header_length) (starts_with nat_eq bytes volume_magic) (channels bytes == 3)
    (sum (reserved bytes) == 0) (axes_flaw (header_axes bytes)) _ _ _ _ e in
    record {
      long = at_least (length bytes) header_length tests.0;
      text = tests.1;
      three = same (channels bytes) 3 tests.2;
      zero = same (sum (reserved bytes)) 0 tests.3;
      axes = tests.4;
    }
  where
    at_least : (n m : ℕ) → nat_lt n m ≡ false → m ≤ n
    at_least n m h = grind (arith, nat_tests)

    same : (n m : ℕ) → (n == m) ≡ true → n ≡ m
    same n m h = grind (arith, nat_tests)

sound_body : (axes : Axes) (bytes : List ℕ) → body_flaw axes bytes ≡ None → length bytes ≡ edge_count axes
unfolding body_flaw
sound_body axes bytes e = grind (arith, nat_tests, e)

first_none : (o p : Option VolumeFlaw) → first_of_two o p ≡ None → (o ≡ None) × (p ≡ None)
first_none None p e = (refl, e)
first_none (Some flaw) p e = absurd (cc)

-- the header of a file is written back from its axes
header_stands : (bytes : List ℕ) → All (λ byte. byte < 256) bytes → PassesTests bytes
    → Stands bytes 0 header_length (volume_header (header_axes bytes))
header_stands bytes small tests =
    let count = subst (λ n. Stands bytes 20 24 (u32_bytes n)) tests.three
    (u32_stands bytes small 20 24 refl (omega (arith, tests.long))) in
    joined (text_stands bytes volume_magic tests.text)
    (joined (axes_stand bytes small 8 20 refl (omega (arith, tests.long)))
    (joined count (zeros_stand bytes 24 8 tests.long tests.zero)))

pub sound_volume : SoundFilesHoldVolumes
sound_volume bytes small none =
    let parts = first_none (header_flaw bytes) (body_flaw (header_axes bytes) (body bytes)) none in
    let tests = sound_header bytes parts.0 in (
      record {
        limits = within_limits (header_axes bytes) tests.axes;
        whole_body = sound_body (header_axes bytes) (body bytes) parts.1;
        bytes_fit = λ e. subst (λ byte. byte < 256) (sym (get_or-drop header_length bytes e 0)) (fits bytes small (header_length + e));
      },
      (header_stands bytes small tests).is,
    )
