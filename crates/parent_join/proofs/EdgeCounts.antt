-- How many numbers of a list pass a test: those of tests that no number passes two of add up.
use Rattle.std.proofs.Common.{◌≡◌, ℕ, ◌+◌, ◌≤◌, Bool, true, false, cond, not, ◌&&◌, ◌||◌, List, [], ◌∷◌, sum_by, count_by, refl, sym, subst, arith}
use Rattle.std.specs.Prelude.{AllPairs, Contains}
use Rattle.std.proofs.lemmas.Bool.{false≢true}
use Rattle.std.proofs.lemmas.List.Sums.{sum_by-cons}
use mathlib.Core.Path.{fun_ext}
use Rattle.agglo_model.proofs.Members.{contains_head, contains_tail, all_pairs_head, all_pairs_tail}

part_step : (p q : Bool) (x y z : ℕ) → x + y ≡ z → (cond (p && q) 1 0 + x) + (cond (not p && q) 1 0 + y) ≡ cond q 1 0 + z
part_step true true x y z same = omega arith
part_step true false x y z same = omega arith
part_step false true x y z same = omega arith
part_step false false x y z same = omega arith

-- the numbers that pass, by another test
count-parts : (p q : ℕ → Bool) (ns : List ℕ)
    → count_by (λ k. p k && q k) ns + count_by (λ k. not (p k) && q k) ns ≡ count_by q ns
count-parts p q [] = refl
count-parts p q (n ∷ ns) =
    let one = sum_by-cons (λ k. cond (p k && q k) 1 0) n ns in
    let other = sum_by-cons (λ k. cond (not (p k) && q k) 1 0) n ns in
    let all = sum_by-cons (λ k. cond (q k) 1 0) n ns in
    let step = part_step (p n) (q n) _ _ _ (count-parts p q ns) in
    omega (arith, one, other, all, step)

both_step : (p q : Bool) (x y z : ℕ) → (p && q) ≡ false → x + y ≡ z → cond (p || q) 1 0 + z ≡ (cond p 1 0 + x) + (cond q 1 0 + y)
both_step true true x y z apart same = absurd (false≢true (sym apart))
both_step true false x y z apart same = omega arith
both_step false true x y z apart same = omega arith
both_step false false x y z apart same = omega arith

-- two tests that no number passes both
pub count-both : (p q : ℕ → Bool) → ((k : ℕ) → (p k && q k) ≡ false) → (ns : List ℕ)
    → count_by (λ k. p k || q k) ns ≡ count_by p ns + count_by q ns
count-both p q apart [] = refl
count-both p q apart (n ∷ ns) =
    let one = sum_by-cons (λ k. cond (p k) 1 0) n ns in
    let other = sum_by-cons (λ k. cond (q k) 1 0) n ns in
    let all = sum_by-cons (λ k. cond (p k || q k) 1 0) n ns in
    let step = both_step (p n) (q n) _ _ _ (apart n) (sym (count-both p q apart ns)) in
    omega (arith, one, other, all, step)

-- what passes the test of a later element fails that of the first
other_test : (p q r : Bool) → (p ≡ true → q ≡ true → ⊥) → (q && r) ≡ (q && (not p && r))
other_test true true r apart = absurd (apart refl refl)
other_test true false r apart = refl
other_test false q r apart = refl

module _ {X : Type 0} (of : X → ℕ → Bool) (size : X → ℕ) (ns : List ℕ) where
  -- no number passes the tests of both
  abbrev pub AreApart : X → X → Type 0
  AreApart x y = (k : ℕ) → of x k ≡ true → of y k ≡ true → ⊥

  -- elements that are no larger than the numbers of their own that pass a test
  pub apart_counts : (xs : List X) (test : ℕ → Bool) → AllPairs AreApart xs
      → ((x : X) → Contains xs x → size x ≤ count_by (λ k. of x k && test k) ns) → sum_by size xs ≤ count_by test ns
  apart_counts [] test apart each = omega arith
  apart_counts (x ∷ xs) test apart each =
      let rest = apart_counts xs (λ k. not (of x k) && test k) (all_pairs_tail AreApart x xs apart) (λ y inside.
      subst (λ p. size y ≤ count_by p ns)
      (fun_ext (λ k. other_test (of x k) (of y k) (test k) (all_pairs_head AreApart x y xs apart inside k)))
      (each y (contains_tail x y xs inside))) in
      let first = each x (contains_head x xs) in
      let parts = count-parts (of x) test ns in
      let sum = sum_by-cons size x xs in
      omega (arith, rest, first, parts, sum)
