-- The total of one edge, and of none.
use Rattle.std.proofs.Common.{◌≡◌, ◌⊎◌, inl, inr, ℕ, zero, suc, ◌+◌, ◌<◌, ◌≤◌, Bool, true, false, cond, ◌&&◌, eqb, sum_by, refl, sym, ap, ◌∙◌, arith}
use Rattle.std.specs.List.{range_with_len}
use Rattle.std.proofs.lemmas.Bool.{cases_lt, eqb-true, false≢true, eq-eqb}
use Rattle.std.proofs.lemmas.Bool.Decides.{nat_tests}
use Rattle.std.proofs.lemmas.List.Sums.{sum_by-cons}
use mathlib.Core.Path.{fun_ext}
use Rattle.agglo_model.specs.Axes.{edge_count}
use Rattle.agglo_model.specs.Grid.{Grid, affinity}
use Rattle.agglo_model.specs.Contacts.{total}
use Rattle.agglo_model.specs.RegionGraph.{no_contact}
use Rattle.agglo_model.proofs.GraphContacts.{same_contact}
use Rattle.agglo_model.proofs.Totals.{total-some, total-tie, total-none}

-- no edge passes
pub total-nothing : (g : Grid) (p : ℕ → Bool) → ((e : ℕ) → p e ≡ false) → total g p ≡ no_contact (edge_count g.axes)
total-nothing g p fails = by_cases (cases_lt 0 (total g p).count)
  where
    by_cases : (0 < (total g p).count) ⊎ ((total g p).count ≤ 0) → total g p ≡ no_contact (edge_count g.axes)
    by_cases (inl some) = absurd (false≢true (sym (fails (total g p).tie) ∙ (total-tie g p some).1))
    by_cases (inr none) =
        let count : (total g p).count ≡ 0 = omega arith in
        let rest = total-none g p count in
        same_contact (total g p) (no_contact (edge_count g.axes)) rest.0 count rest.1

-- ---- a sum over the numbers of a range that are one number

sum_before : (f : ℕ → ℕ) (k n a : ℕ) → k < a → sum_by (λ e. cond (eqb e k) (f e) 0) (range_with_len a n) ≡ 0
sum_before f k zero a before = refl
sum_before f k (suc n) a before =
    sum_by-cons (λ e. cond (eqb e k) (f e) 0) a (range_with_len (a + 1) n)
    ∙ step (eqb a k) (other a k before) (sum_before f k n (a + 1) (omega arith))
  where
    other : (a k : ℕ) → k < a → eqb a k ≡ false
    other a k before = grind (arith, nat_tests)

    step : (b : Bool) → b ≡ false → sum_by (λ e. cond (eqb e k) (f e) 0) (range_with_len (a + 1) n) ≡ 0
        → cond b (f a) 0 + sum_by (λ e. cond (eqb e k) (f e) 0) (range_with_len (a + 1) n) ≡ 0
    step true fail rest = absurd (false≢true (sym fail))
    step false fail rest = omega arith

later : (a k : ℕ) → a ≤ k → eqb a k ≡ false → a + 1 ≤ k
later a k from fail = grind (arith, nat_tests)

sum_at_step : (f : ℕ → ℕ) (k n a : ℕ) → k < a + suc n → a ≤ k
    → (a + 1 ≤ k → sum_by (λ e. cond (eqb e k) (f e) 0) (range_with_len (a + 1) n) ≡ f k) → (b : Bool) → eqb a k ≡ b
    → cond b (f a) 0 + sum_by (λ e. cond (eqb e k) (f e) 0) (range_with_len (a + 1) n) ≡ f k
sum_at_step f k n a to from rest true pass =
    let same = eqb-true a k pass in
    let others = sum_before f k n (a + 1) (omega arith) in
    let here = ap f same in
    omega (arith, others, here)
sum_at_step f k n a to from rest false fail =
    let others = rest (later a k from fail) in
    omega (arith, others)

sum_at : (f : ℕ → ℕ) (k n a : ℕ) → a ≤ k → k < a + n → sum_by (λ e. cond (eqb e k) (f e) 0) (range_with_len a n) ≡ f k
sum_at f k zero a from to = absurd (omega arith)
sum_at f k (suc n) a from to =
    sum_by-cons (λ e. cond (eqb e k) (f e) 0) a (range_with_len (a + 1) n)
    ∙ sum_at_step f k n a to from (λ more. sum_at f k n (a + 1) more (omega arith)) (eqb a k) refl

sum-one : (g : Grid) (k : ℕ) → k < edge_count g.axes → (total g (λ e. eqb e k)).sum ≡ affinity g k
unfolding total
sum-one g k below = sum_at (affinity g) k (edge_count g.axes) 0 (omega arith) (omega arith)

count-one : (g : Grid) (k : ℕ) → k < edge_count g.axes → (total g (λ e. eqb e k)).count ≡ 1
unfolding total
count-one g k below = sum_at (λ e. 1) k (edge_count g.axes) 0 (omega arith) (omega arith)

-- one edge passes
pub total-one : (g : Grid) (k : ℕ) → k < edge_count g.axes
    → total g (λ e. eqb e k) ≡ record { sum = affinity g k; count = 1; tie = k }
total-one g k below =
    let some = total-some g (λ e. eqb e k) k below (eq-eqb k k refl) in
    let tie = eqb-true (total g (λ e. eqb e k)).tie k (total-tie g (λ e. eqb e k) some).1 in
    same_contact (total g (λ e. eqb e k)) (record { sum = affinity g k; count = 1; tie = k })
    (sum-one g k below) (count-one g k below) tie

only_here : (p : ℕ → Bool) (e k : ℕ) (b c : Bool) → eqb e k ≡ c → p k ≡ b → (p e && eqb e k) ≡ (b && eqb e k)
only_here p e k b true same is =
    ap (λ t. t && eqb e k) (ap p (eqb-true e k same) ∙ is)
only_here p e k b false other is = (λ i. p e && other i) ∙ neither (p e) b ∙ (λ i. b && sym other i)
  where
    neither : (x y : Bool) → (x && false) ≡ (y && false)
    neither true true = refl
    neither true false = refl
    neither false true = refl
    neither false false = refl

-- the total of an edge that passes a test or not
pub total-here : (g : Grid) (p : ℕ → Bool) (k : ℕ) → k < edge_count g.axes
    → total g (λ e. p e && eqb e k)
    ≡ cond (p k) (record { sum = affinity g k; count = 1; tie = k }) (no_contact (edge_count g.axes))
total-here g p k below = ap (total g) (fun_ext (λ e. only_here p e k (p k) (eqb e k) refl refl)) ∙ by_cases (p k)
  where
    by_cases : (b : Bool) → total g (λ e. b && eqb e k)
        ≡ cond b (record { sum = affinity g k; count = 1; tie = k }) (no_contact (edge_count g.axes))
    by_cases true = total-one g k below
    by_cases false = total-nothing g (λ e. false) (λ e. refl)
