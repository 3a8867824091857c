-- Totals of the edges that pass a test: where none passes, where one does, and of two tests at once.
use Rattle.std.proofs.Common.{◌≡◌, ℕ, ◌+◌, ◌<◌, ◌≤◌, min, Bool, true, false, cond, not, ◌&&◌, ◌||◌, List, [], ◌∷◌, length, get_or, sum_by, count_by, refl, sym, ap, zero-add, ◌∙◌, subst, arith}
use Rattle.std.specs.List.{position_or_len}
use Rattle.std.proofs.lemmas.List.Sums.{sum_by-cons, get_or-le-sum_by, prefix_len-le-length, passes_at_first, fails_before_first}
use Rattle.std.proofs.lemmas.List.FromFn.{get_or-range_with_len, length-range_with_len}
use Rattle.std.proofs.lemmas.Bool.{false≢true}
use Rattle.agglo_model.specs.Axes.{edge_count}
use Rattle.agglo_model.specs.Grid.{Grid, affinity}
use Rattle.agglo_model.specs.PairOrder.{added}
use Rattle.agglo_model.specs.Contacts.{total, edge_numbers}

-- one more element, which passes or not
first_step : (b : Bool) (count first len : ℕ) → (0 < count → first < len) → 0 < cond b 1 0 + count
    → cond (not b) (1 + first) 0 < 1 + len
first_step true count first len rest some = omega arith
first_step false count first len rest some =
    let here : first < len = rest (omega arith) in omega arith

-- where some element passes, the first one is in the list
first-lt-length : (p : ℕ → Bool) (xs : List ℕ) → 0 < count_by p xs
    → position_or_len p xs < length xs
first-lt-length p [] some = omega arith
first-lt-length p (x ∷ xs) some =
    let split = sum_by-cons (λ y. cond (p y) 1 0) x xs in
    let more : 0 < cond (p x) 1 0 + count_by p xs = subst (λ n. 0 < n) split some in
    let step = first_step (p x) (count_by p xs) (position_or_len p xs) (length xs)
    (first-lt-length p xs) more in
    omega (arith, step)

none_step : (b : Bool) (count first len : ℕ) → (count ≡ 0 → first ≡ len) → cond b 1 0 + count ≡ 0
    → cond (not b) (1 + first) 0 ≡ 1 + len
none_step true count first len rest none = omega arith
none_step false count first len rest none =
    let here : first ≡ len = rest (omega arith) in omega arith

-- where no element passes, the first place is past the end
first-none : (p : ℕ → Bool) (xs : List ℕ) → count_by p xs ≡ 0 → position_or_len p xs ≡ length xs
first-none p [] none = refl
first-none p (x ∷ xs) none =
    let split = sum_by-cons (λ y. cond (p y) 1 0) x xs in
    let fewer : cond (p x) 1 0 + count_by p xs ≡ 0 = sym split ∙ none in
    let step = none_step (p x) (count_by p xs) (position_or_len p xs) (length xs)
    (first-none p xs) fewer in
    omega (arith, step)

sum_none_step : (b : Bool) (count a rest : ℕ) → (count ≡ 0 → rest ≡ 0) → cond b 1 0 + count ≡ 0
    → cond b a 0 + rest ≡ 0
sum_none_step true count a rest ih none = omega arith
sum_none_step false count a rest ih none =
    let here : rest ≡ 0 = ih (omega arith) in omega arith

sum-none : (p : ℕ → Bool) (f : ℕ → ℕ) (xs : List ℕ) → count_by p xs ≡ 0
    → sum_by (λ x. cond (p x) (f x) 0) xs ≡ 0
sum-none p f [] none = refl
sum-none p f (x ∷ xs) none =
    let split = sum_by-cons (λ y. cond (p y) 1 0) x xs in
    let fewer : cond (p x) 1 0 + count_by p xs ≡ 0 = sym split ∙ none in
    sum_by-cons (λ y. cond (p y) (f y) 0) x xs
    ∙ sum_none_step (p x) (count_by p xs) (f x) (sum_by (λ y. cond (p y) (f y) 0) xs)
    (sum-none p f xs) fewer

-- a sum over the elements that pass one of two tests, never both
both_step : (b c : Bool) (a m x y : ℕ) → (b && c) ≡ false → m ≡ x + y
    → cond (b || c) a 0 + m ≡ (cond b a 0 + x) + (cond c a 0 + y)
both_step true true a m x y apart e = absurd (false≢true (sym apart))
both_step true false a m x y apart e = omega arith
both_step false true a m x y apart e = omega arith
both_step false false a m x y apart e = omega arith

sum-both : (p q : ℕ → Bool) (f : ℕ → ℕ) → ((e : ℕ) → (p e && q e) ≡ false) → (xs : List ℕ)
    → sum_by (λ x. cond (p x || q x) (f x) 0) xs
    ≡ sum_by (λ x. cond (p x) (f x) 0) xs + sum_by (λ x. cond (q x) (f x) 0) xs
sum-both p q f apart [] = refl
sum-both p q f apart (x ∷ xs) =
    let r = sum_by-cons (λ y. cond (p y || q y) (f y) 0) x xs in
    let s = sum_by-cons (λ y. cond (p y) (f y) 0) x xs in
    let t = sum_by-cons (λ y. cond (q y) (f y) 0) x xs in
    let step = both_step (p x) (q x) (f x) _ _ _ (apart x) (sum-both p q f apart xs) in
    omega (arith, r, s, t, step)

min_step : (b c : Bool) (m x y : ℕ) → m ≡ min x y
    → cond (not (b || c)) (1 + m) 0 ≡ min (cond (not b) (1 + x) 0) (cond (not c) (1 + y) 0)
min_step true true m x y e = omega arith
min_step true false m x y e = omega arith
min_step false true m x y e = omega arith
min_step false false m x y e = omega arith

first-both : (p q : ℕ → Bool) (xs : List ℕ)
    → position_or_len (λ x. p x || q x) xs ≡ min (position_or_len p xs) (position_or_len q xs)
first-both p q [] = refl
first-both p q (x ∷ xs) =
    min_step (p x) (q x) (position_or_len (λ y. p y || q y) xs) (position_or_len p xs)
    (position_or_len q xs) (first-both p q xs)

-- the total of two tests that no edge passes both
pub total-both : (g : Grid) (p q : ℕ → Bool) → ((e : ℕ) → (p e && q e) ≡ false)
    → total g (λ e. p e || q e) ≡ added (total g p) (total g q)
unfolding total
total-both g p q apart = λ i. record {
  sum = sum-both p q (affinity g) apart (edge_numbers g) i;
  count = sum-both p q (λ e. 1) apart (edge_numbers g) i;
  tie = first-both p q (edge_numbers g) i;
}

-- the edge numbers at a place
pub edge_at : (g : Grid) (e : ℕ) → e < edge_count g.axes → get_or (edge_numbers g) e 0 ≡ e
edge_at g e below = get_or-range_with_len 0 (edge_count g.axes) e 0 below ∙ zero-add e

-- an edge that passes counts
pub total-some : (g : Grid) (p : ℕ → Bool) (e : ℕ) → e < edge_count g.axes → p e ≡ true
    → 0 < (total g p).count
unfolding total
total-some g p e below pass =
    let len = length-range_with_len 0 (edge_count g.axes) in
    let one = get_or-le-sum_by (λ x. cond (p x) 1 0) (edge_numbers g) e 0 (omega (arith, len)) in
    let two : cond (p e) 1 0 ≤ count_by p (edge_numbers g) =
    subst (λ x. cond (p x) 1 0 ≤ count_by p (edge_numbers g)) (edge_at g e below) one in
    let three : 1 ≤ count_by p (edge_numbers g) =
    subst (λ b. cond b 1 0 ≤ count_by p (edge_numbers g)) pass two in
    omega (arith, three)

-- where some edge passes, the tie is an edge number that passes
pub total-tie : (g : Grid) (p : ℕ → Bool) → 0 < (total g p).count
    → ((total g p).tie < edge_count g.axes) × (p (total g p).tie ≡ true)
unfolding total
total-tie g p some =
    let len = length-range_with_len 0 (edge_count g.axes) in
    let inside = first-lt-length p (edge_numbers g) some in
    let below : position_or_len p (edge_numbers g) < edge_count g.axes = omega (arith, len, inside) in
    let here = edge_at g (position_or_len p (edge_numbers g)) below in
    (below, subst (λ x. p x ≡ true) here (passes_at_first p (edge_numbers g) 0 inside))

-- no edge that passes is below the tie
pub total-least : (g : Grid) (p : ℕ → Bool) (e : ℕ) → e < edge_count g.axes → p e ≡ true
    → (total g p).tie ≤ e
unfolding total
total-least g p e below pass =
    let fails : e < position_or_len p (edge_numbers g) → ⊥ =
    λ before. false≢true (
    sym (fails_before_first p (edge_numbers g) e 0 before)
    ∙ ap p (edge_at g e below) ∙ pass) in
    omega (arith, fails)

-- where no edge passes, the sum is 0 and the tie is past all edges
pub total-none : (g : Grid) (p : ℕ → Bool) → (total g p).count ≡ 0
    → ((total g p).sum ≡ 0) × ((total g p).tie ≡ edge_count g.axes)
unfolding total
total-none g p none = (
  sum-none p (affinity g) (edge_numbers g) none,
  first-none p (edge_numbers g) none ∙ length-range_with_len 0 (edge_count g.axes),
)

-- the tie is at most the number past all edges
pub total-tie-le : (g : Grid) (p : ℕ → Bool) → (total g p).tie ≤ edge_count g.axes
unfolding total
total-tie-le g p =
    let len = length-range_with_len 0 (edge_count g.axes) in
    let most = prefix_len-le-length (λ e. not (p e)) (edge_numbers g) in
    omega (arith, len, most)
