-- The flaw of a body of a tree file by its length, and a body that is cut off after its flaw shows.
use Rattle.std.proofs.Common.{◌≡◌, ℕ, ◌+◌, ◌*◌, ◌<◌, ◌≤◌, nat_lt, Bool, true, false, if◌then◌else◌, List, [], length, take, Option, Some, None, refl, sym, ap, ◌∙◌, arith, ◌⊎◌, inl, inr}
use Rattle.std.proofs.lemmas.Bool.Decides.{nat_tests}
use Rattle.std.proofs.lemmas.List.{take_all, length-take-le}
use Rattle.std.proofs.lemmas.Bool.{lt-ltb, le-ltb}
use Rattle.agglo_model.specs.Axes.{Axes}
use Rattle.agglo_model.specs.PairOrder.{Threshold}
use Rattle.agglo_model.specs.TreeFile.{TreeFlaw, Truncated, Trailing, body_flaw, records_flaw, merges_in, record_length}

judged : Bool → Bool → ℕ → Option TreeFlaw → Option TreeFlaw
judged short long n records = if short then Some (Truncated n) else (if long then Some Trailing else records)

flaw_is : (axes : Axes) (t : Threshold) (n : ℕ) (bytes : List ℕ) (short long : Bool) → nat_lt (length bytes) (record_length * n) ≡ short
    → nat_lt (record_length * n) (length bytes) ≡ long
    → body_flaw axes t n bytes ≡ judged short long (length bytes) (records_flaw axes t [] (merges_in n bytes))
unfolding body_flaw judged
flaw_is axes t n bytes short long p q = λ i. judged (p i) (q i) (length bytes) (records_flaw axes t [] (merges_in n bytes))

pub short_body : (axes : Axes) (t : Threshold) (n : ℕ) (bytes : List ℕ) → length bytes < record_length * n
    → body_flaw axes t n bytes ≡ Some (Truncated (length bytes))
unfolding judged
short_body axes t n bytes h = flaw_is axes t n bytes true _ (lt-ltb (length bytes) (record_length * n) h) refl

pub long_body : (axes : Axes) (t : Threshold) (n : ℕ) (bytes : List ℕ) → record_length * n < length bytes → body_flaw axes t n bytes ≡ Some Trailing
unfolding judged
long_body axes t n bytes h =
    flaw_is axes t n bytes false true (le-ltb (length bytes) (record_length * n) (omega (arith, h))) (lt-ltb (record_length * n) (length bytes) h)

pub whole_body : (axes : Axes) (t : Threshold) (n : ℕ) (bytes : List ℕ) → length bytes ≡ record_length * n
    → body_flaw axes t n bytes ≡ records_flaw axes t [] (merges_in n bytes)
unfolding judged
whole_body axes t n bytes h =
    flaw_is axes t n bytes false false (le-ltb (length bytes) (record_length * n) (omega (arith, h))) (le-ltb (record_length * n) (length bytes) (omega (arith, h)))

-- one byte more than the records have shows whether there are too many
pub cut_body : (axes : Axes) (t : Threshold) (n : ℕ) (bytes : List ℕ)
    → body_flaw axes t n (take (record_length * n + 1) bytes) ≡ body_flaw axes t n bytes
cut_body axes t n bytes = elim (within_or_not (length bytes) (record_length * n + 1)) [
  | inl within ↦ ap (body_flaw axes t n) (take_all (record_length * n + 1) bytes within)
  | inr over ↦
      let size : length (take (record_length * n + 1) bytes) ≡ record_length * n + 1 = length-take-le (record_length * n + 1) bytes (omega (arith, over)) in
      long_body axes t n (take (record_length * n + 1) bytes) (omega (arith, size)) ∙ sym (long_body axes t n bytes (omega (arith, over)))
]
  where
    within_or_not : (k m : ℕ) → (k ≤ m) ⊎ (m < k)
    within_or_not k m = grind arith

parts : (short long : Bool) (n : ℕ) (records : Option TreeFlaw) → judged short long n records ≡ None → (short ≡ false) × (long ≡ false)
unfolding judged
parts true long n records e = absurd (cc)
parts false true n records e = absurd (cc)
parts false false n records e = (refl, refl)

-- a body without a flaw has the length of its records
pub whole_length : (axes : Axes) (t : Threshold) (n : ℕ) (bytes : List ℕ) → body_flaw axes t n bytes ≡ None → length bytes ≡ record_length * n
whole_length axes t n bytes e =
    let both = parts (nat_lt (length bytes) (record_length * n)) (nat_lt (record_length * n) (length bytes)) (length bytes)
    (records_flaw axes t [] (merges_in n bytes)) (sym (flaw_is axes t n bytes _ _ refl refl) ∙ e) in
    same (length bytes) (record_length * n) both.0 both.1
  where
    same : (k m : ℕ) → nat_lt k m ≡ false → nat_lt m k ≡ false → k ≡ m
    same k m p q = grind (arith, nat_tests)
