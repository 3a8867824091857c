-- Sums over ranges of numbers.
use Rattle.std.proofs.Common.{◌≡◌, ℕ, zero, suc, ◌+◌, ◌<◌, ◌≤◌, List, [], ◌∷◌, ◌++◌, length, take, get_or, sum_by, refl, sym, ap, ap₂, ◌∙◌, add-zero, arith}
use Rattle.std.specs.List.{range_with_len}
use Rattle.std.proofs.lemmas.List.Sums.{sum_by_push, sum_by_more, sum_by-take-le}

-- one more number at the end
range_end : (a n : ℕ) → range_with_len a (suc n) ≡ range_with_len a n ++ (a + n) ∷ []
range_end a zero = ap (λ x. x ∷ []) (sym (add-zero a))
range_end a (suc n) =
    let last : a + 1 + n ≡ a + suc n = omega arith in
    ap (λ l. a ∷ l) (range_end (a + 1) n) ∙ ap (λ x. a ∷ (range_with_len (a + 1) n ++ x ∷ [])) last

pub sum_end : (f : ℕ → ℕ) (a n : ℕ) → sum_by f (range_with_len a (suc n)) ≡ sum_by f (range_with_len a n) + f (a + n)
sum_end f a n = ap (sum_by f) (range_end a n) ∙ sum_by_push f (range_with_len a n) (a + n)

-- two functions that agree along a range
pub same_sums : (f g : ℕ → ℕ) (a n : ℕ) → ((k : ℕ) → a ≤ k → k < a + n → f k ≡ g k)
    → sum_by f (range_with_len a n) ≡ sum_by g (range_with_len a n)
same_sums f g a zero same = refl
same_sums f g a (suc n) same =
    sum_end f a n
    ∙ ap₂ (λ x y. x + y) (same_sums f g a n (λ k from to. same k from (omega arith))) (same (a + n) (omega arith) (omega arith))
    ∙ sym (sum_end g a n)

-- a function that is nowhere greater along a range
pub lesser_sum : (f g : ℕ → ℕ) (a n : ℕ) → ((k : ℕ) → a ≤ k → k < a + n → f k ≤ g k)
    → sum_by f (range_with_len a n) ≤ sum_by g (range_with_len a n)
lesser_sum f g a zero less = omega arith
lesser_sum f g a (suc n) less =
    let rest = lesser_sum f g a n (λ k from to. less k from (omega arith)) in
    let last = less (a + n) (omega arith) (omega arith) in
    omega (arith, sum_end f a n, sum_end g a n)

-- what is at the places of a range is part of a list
pub sum_between : {X : Type 0} (f : X → ℕ) (xs : List X) (d : X) (a n : ℕ) → a + n ≤ length xs
    → sum_by f (take a xs) + sum_by (λ k. f (get_or xs k d)) (range_with_len a n) ≡ sum_by f (take (a + n) xs)
sum_between f xs d a zero inside =
    add-zero (sum_by f (take a xs)) ∙ ap (λ k. sum_by f (take k xs)) (sym (add-zero a))
sum_between f xs d a (suc n) inside =
    let next : a + n + 1 ≡ a + suc n = omega arith in
    let end = sum_end (λ k. f (get_or xs k d)) a n in
    let before = sum_between f xs d a n (omega arith) in
    let more = sum_by_more f xs (a + n) d (omega arith) in
    let there : sum_by f (take (a + n + 1) xs) ≡ sum_by f (take (a + suc n) xs) = ap (λ k. sum_by f (take k xs)) next in
    omega arith

pub sum_places-le : {X : Type 0} (f : X → ℕ) (xs : List X) (d : X) (a n : ℕ) → a + n ≤ length xs
    → sum_by (λ k. f (get_or xs k d)) (range_with_len a n) ≤ sum_by f xs
sum_places-le f xs d a n inside = omega (arith, sum_between f xs d a n inside, sum_by-take-le f xs (a + n))
