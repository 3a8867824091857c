-- What holds of every two elements of a list holds of every two of the same list in another order.
use Rattle.std.proofs.Common.{◌≡◌, ◌≢◌, ℕ, ◌<◌, ◌==◌, if◌then◌else◌, List, length, get_or, refl, sym, subst, arith, ◌⊎◌, inl, inr}
use Rattle.std.specs.Prelude.{AllPairs, IsPermutation}
use Rattle.std.specs.List.{swap}
use Rattle.std.proofs.lemmas.Bool.Decides.{nat_tests}
use Rattle.std.proofs.lemmas.List.Edits.{Swapped, swapped_from_swap}
use Rattle.std.proofs.lemmas.List.Sorted.{IsPermutation-keeps, IsPermutation-swap, length_permutation}

-- R holds of the elements at any two places, whichever comes first
abbrev HoldsApart : {X : Type 0} → (X → X → Type 0) → List X → Type 0
HoldsApart {X} R xs = (i j : ℕ) (d : X) → i ≢ j → i < length xs → j < length xs → R (get_or xs i d) (get_or xs j d)

-- where the element at k stood before those at a and b changed places
place : ℕ → ℕ → ℕ → ℕ
place a b k = if k == a then b else (if k == b then a else k)

place_apart : (a b i j : ℕ) → i ≢ j → place a b i ≢ place a b j
unfolding place
place_apart a b i j ne = λ e. grind (arith, nat_tests)

place_below : (a b k n : ℕ) → a < n → b < n → k < n → place a b k < n
unfolding place
place_below a b k n la lb lk = grind (arith, nat_tests)

stood : {X : Type 0} → (f g : ℕ → X) (a b k : ℕ) → Swapped f g a b → g k ≡ f (place a b k)
unfolding place
stood f g a b k (p, q, other) = let here = other k in grind (arith, nat_tests, here)

swap_keeps : {X : Type 0} → (R : X → X → Type 0) (xs : List X) (a b : ℕ) → a < length xs → b < length xs
    → HoldsApart R xs → HoldsApart R (swap xs a b)
swap_keeps {X} R xs a b la lb h = λ i j d ne li lj.
    let size : length (swap xs a b) ≡ length xs =
    length_permutation xs (swap xs a b) (IsPermutation-swap xs (swap xs a b) a b la lb refl) in
    let s = swapped_from_swap xs (swap xs a b) a b d la lb refl in
    let first : get_or (swap xs a b) i d ≡ get_or xs (place a b i) d = stood (λ k. get_or xs k d) (λ k. get_or (swap xs a b) k d) a b i s in
    let second : get_or (swap xs a b) j d ≡ get_or xs (place a b j) d = stood (λ k. get_or xs k d) (λ k. get_or (swap xs a b) k d) a b j s in
    subst (λ (x : X). R x (get_or (swap xs a b) j d)) (sym first)
    (subst (R (get_or xs (place a b i) d)) (sym second)
    (h (place a b i) (place a b j) d (place_apart a b i j ne) (place_below a b i (length xs) la lb (omega arith)) (place_below a b j (length xs) la lb (omega arith))))

pub AllPairs-permutation : {X : Type 0} → (R : X → X → Type 0) → ((x y : X) → R x y → R y x) → (xs ys : List X)
    → IsPermutation xs ys → AllPairs R xs → AllPairs R ys
AllPairs-permutation {X} R symmetric xs ys moved pairs =
    let apart : HoldsApart R xs = λ i j d ne li lj. elim (lt_or_gt i j ne) [
      | inl before ↦ pairs i j d before lj
      | inr after ↦ symmetric _ _ (pairs j i d after li)
    ] in
    let all : HoldsApart R ys = IsPermutation-keeps xs (HoldsApart R) apart (λ l a b la lb h. swap_keeps R l a b la lb h) ys moved in
    λ i j d before lj. all i j d (omega arith) (omega arith) lj
  where
    lt_or_gt : (i j : ℕ) → i ≢ j → (i < j) ⊎ (j < i)
    lt_or_gt i j ne = grind arith
