-- Facts about tests joined with and, or and not.
use Rattle.std.proofs.Common.{◌≡◌, ℕ, ◌≤◌, Bool, true, false, true≢false, cond, ◌&&◌, ◌||◌, List, [], ◌∷◌, count_by, refl, sym, ap, arith}
use Rattle.std.specs.Cmp.{both_ways}
use Rattle.std.proofs.lemmas.Bool.{and_parts, and_from}
use Rattle.std.proofs.lemmas.List.Sums.{sum_by-cons}

-- a test that implies another one adds nothing to it
pub with_implied : (a b : Bool) → (b ≡ true → a ≡ true) → (a && b) ≡ b
with_implied a b implies = both_ways (a && b) b (λ pass. (and_parts a b pass).1) (λ pass. and_from a b (implies pass) pass)

-- what matters of a test where another one passes
pub same_where : (b x y : Bool) → (b ≡ true → x ≡ y) → (b && x) ≡ (b && y)
same_where true x y same = same refl
same_where false x y same = refl

pub not_both : (a b : Bool) → (a ≡ true → b ≡ true → ⊥) → (a && b) ≡ false
not_both true true apart = absurd (apart refl refl)
not_both true false apart = refl
not_both false b apart = refl

pub both_apart : (a b d : Bool) → (b && d) ≡ false → ((a && b) && (a && d)) ≡ false
both_apart true b d apart = apart
both_apart false b d apart = refl

-- what three tests leave open of a fourth where the first passes
pub alike : (i d a p q : Bool) → (i ≡ true → p ≡ q) → (((i && d) && a) && p) ≡ (((i && d) && a) && q)
alike true d a p q same = ap (λ t. (d && a) && t) (same refl)
alike false d a p q same = refl

pub or_again : (a b k : Bool) → ((a || b) || (k && b)) ≡ (a || b)
or_again true b k = refl
or_again false true k = refl
or_again false false true = refl
or_again false false false = refl

-- a test that implies another one counts no more
pub implied_le : (p q : Bool) → (q ≡ true → p ≡ true) → cond q 1 0 ≤ cond p 1 0
implied_le p false implies = omega arith
implied_le true true implies = omega arith
implied_le false true implies = absurd (true≢false (sym (implies refl)))

pub count_le : (p q : ℕ → Bool) → ((x : ℕ) → q x ≡ true → p x ≡ true) → (xs : List ℕ) → count_by q xs ≤ count_by p xs
count_le p q less [] = omega arith
count_le p q less (x ∷ xs) =
    let one = sum_by-cons (λ y. cond (p y) 1 0) x xs in
    let other = sum_by-cons (λ y. cond (q y) 1 0) x xs in
    omega (arith, one, other, implied_le (p x) (q x) (less x), count_le p q less xs)
