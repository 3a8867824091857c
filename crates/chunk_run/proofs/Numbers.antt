-- Numbers of a range that were put in order again.
use Rattle.std.proofs.Common.{◌≡◌, ℕ, zero, suc, ◌+◌, ◌-◌, ◌<◌, ◌≤◌, false, eqb, List, [], ◌∷◌, ◌++◌, length, get_or, IsPermutation, ap, sym, subst, ◌∙◌, All, arith}
use Rattle.std.specs.List.{range_with_len, IsDistinct}
use Rattle.std.proofs.lemmas.Bool.Decides.{nat_tests}
use Rattle.std.proofs.lemmas.List.FromFn.{get_or-range_with_len, length-range_with_len}
use Rattle.std.proofs.lemmas.List.Sorted.{All-permutation, length_permutation}
use Rattle.std.proofs.lemmas.Map.Keys.{IsDistinct-from_apart, IsDistinct-IsPermutation, apart_from_distinct}

-- a range with its next number
pub range_more : (a n j : ℕ) → a + n ≡ j → range_with_len a (suc n) ≡ range_with_len a n ++ j ∷ []
range_more a zero j e = let same : a ≡ j = omega arith in ap (λ k. k ∷ []) same
range_more a (suc n) j e = ap (λ l. a ∷ l) (range_more (a + 1) n j (omega arith))

either : (x y : ℕ) → eqb x y ≡ eqb y x
either x y = grind (arith, nat_tests)

pub numbers_differ : (x y : ℕ) → x < y → eqb x y ≡ false
numbers_differ x y below = grind (arith, nat_tests)

less_from : (x y : ℕ) → x ≤ y → eqb x y ≡ false → x < y
less_from x y le apart = grind (arith, nat_tests)

module _ (a n : ℕ) (xs : List ℕ) (shuffled : IsPermutation (range_with_len a n) xs)
    (ascend : (i j : ℕ) → i ≤ j → j < length xs → get_or xs i 0 ≤ get_or xs j 0) where
  pub long : length xs ≡ n
  long = length_permutation (range_with_len a n) xs shuffled ∙ length-range_with_len a n

  inside : All (λ x. (a ≤ x) × (x < a + n)) xs
  inside = All-permutation (λ x. (a ≤ x) × (x < a + n)) (range_with_len a n) xs shuffled (λ k d lt.
      let below : k < n = omega (arith, length-range_with_len a n) in
      subst (λ x. (a ≤ x) × (x < a + n)) (sym (get_or-range_with_len a n k d below)) (omega arith, omega arith))

  apart : IsDistinct eqb xs
  apart = IsDistinct-IsPermutation eqb either (range_with_len a n) xs shuffled
      (IsDistinct-from_apart eqb (range_with_len a n) (λ i j d before below.
      let lt : j < n = omega (arith, length-range_with_len a n) in
      numbers_differ (get_or (range_with_len a n) i d) (get_or (range_with_len a n) j d)
      (omega (arith, get_or-range_with_len a n i d (omega arith), get_or-range_with_len a n j d lt))))

  rises : (i : ℕ) → suc i < n → get_or xs i 0 < get_or xs (suc i) 0
  rises i lt =
      less_from (get_or xs i 0) (get_or xs (suc i) 0) (ascend i (suc i) (omega arith) (omega (arith, long)))
      (apart_from_distinct eqb xs i (suc i) 0 apart (omega arith) (omega (arith, long)))

  least : (i : ℕ) → i < n → a + i ≤ get_or xs i 0
  least zero lt = omega (arith, (inside 0 0 (omega (arith, long))).0)
  least (suc i) lt = omega (arith, least i (omega arith), rises i lt)

  most : (k i : ℕ) → i + suc k ≡ n → get_or xs i 0 + k < a + n
  most zero i is = omega (arith, (inside i 0 (omega (arith, long))).1)
  most (suc k) i is = omega (arith, most k (suc i) (omega arith), rises i (omega arith))

  pub numbers_are : (i : ℕ) → i < n → get_or xs i 0 ≡ a + i
  numbers_are i lt = omega (arith, least i lt, most (n - suc i) i (omega arith))
