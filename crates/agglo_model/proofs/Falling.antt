-- The contacts of greedy merges fall strictly.
use Rattle.std.proofs.Common.{◌≡◌, ◌≢◌, ◌⊎◌, inl, inr, ℕ, zero, suc, ◌+◌, ◌<◌, List, [], ◌∷◌, get_or, sym, ◌∙◌, subst, arith}
use Rattle.agglo_model.specs.Grid.{Grid}
use Rattle.agglo_model.specs.PairOrder.{Threshold, Before}
use Rattle.agglo_model.specs.Contacts.{between, InContact, renamed}
use Rattle.agglo_model.specs.Greedy.{Merge, IsFirstPair, IsGreedyStep, after_merge}
use Rattle.agglo_model.specs.MergeLaws.{GreedyFalls}
use Rattle.agglo_model.proofs.ContactEdges.{between-swap, InContact-swap, InContact-names}
use Rattle.agglo_model.proofs.Diamonds.{InContact-absorbed, before-renamed}

-- the first pair comes before every other, whichever name of that is named first
pub first-any : {g : Grid} {labels : List ℕ} {a b : ℕ} → IsFirstPair g labels a b → (c d : ℕ)
    → InContact g labels c d → (c ≢ a) ⊎ (d ≢ b) → (c ≢ b) ⊎ (d ≢ a)
    → Before (between g labels a b) (between g labels c d)
first-any {g} {labels} {a} {b} pair c d touching one other =
    elim (either_order c d (InContact-names g labels c d touching).2) [
      | inl cd ↦ pair.first c d cd touching one
      | inr dc ↦ subst (Before (between g labels a b)) (between-swap g labels d c)
          (pair.first d c dc (InContact-swap g labels c d touching) (swapped other))
    ]
  where
    either_order : (m n : ℕ) → m ≢ n → (m < n) ⊎ (n < m)
    either_order m n apart = grind arith

    swapped : (c ≢ b) ⊎ (d ≢ a) → (d ≢ a) ⊎ (c ≢ b)
    swapped (inl h) = inr h
    swapped (inr h) = inl h

-- A name other than the two of the first pair: after their merge all its contacts still come later.
falls_apart : (g : Grid) (labels : List ℕ) (a b : ℕ) → IsFirstPair g labels a b → (c d : ℕ) → c ≢ a → c ≢ b
    → InContact g (renamed labels a b) c d
    → Before (between g labels a b) (between g (renamed labels a b) c d)
falls_apart g labels a b pair c d ca cb touching =
    let names = InContact-names g labels a b pair.touching in
    let others = InContact-names g (renamed labels a b) c d touching in
    before-renamed g labels a b c 0 (between g labels a b) names.2 (omega (arith, names)) (omega (arith, names))
    ca cb (omega (arith, names)) (omega (arith, names))
    (λ e e0 meets. first-any {g = g} {labels = labels} {a = a} {b = b} pair c e meets (inl ca) (inl cb))
    d (omega (arith, others)) touching

-- after the merge of the first pair every contact comes later than theirs
pub falls : (g : Grid) (labels : List ℕ) (a b : ℕ) → IsFirstPair g labels a b → (c d : ℕ)
    → InContact g (renamed labels a b) c d
    → Before (between g labels a b) (between g (renamed labels a b) c d)
falls g labels a b pair c d touching =
    let names = InContact-names g labels a b pair.touching in
    let others = InContact-names g (renamed labels a b) c d touching in
    let back = InContact-swap g (renamed labels a b) c d touching in
    let cb : c ≢ b = λ same. InContact-absorbed g labels a b d names.2 (omega (arith, names))
    (subst (InContact g (renamed labels a b) d) same back) in
    let db : d ≢ b = λ same. InContact-absorbed g labels a b c names.2 (omega (arith, names))
    (subst (InContact g (renamed labels a b) c) same touching) in
    elim (is_a c) [
      | inr ca ↦ falls_apart g labels a b pair c d ca cb touching
      | inl same ↦ subst (Before (between g labels a b)) (between-swap g (renamed labels a b) d c)
          (falls_apart g labels a b pair d c (λ e. others.2 (same ∙ sym e)) db back)
    ]
  where
    is_a : (x : ℕ) → (x ≡ a) ⊎ (x ≢ a)
    is_a x = grind arith

-- the step after another
falls_step : (g : Grid) (t : Threshold) (labels : List ℕ) (m n : Merge) → IsGreedyStep g t labels m
    → IsGreedyStep g t (after_merge labels m) n → Before m.contact n.contact
falls_step g t labels m n one other =
    let late = falls g labels m.survivor m.absorbed one.first n.survivor n.absorbed other.first.touching in
    let here = subst (λ c. Before c (between g (after_merge labels m) n.survivor n.absorbed)) (sym one.contact_is) late in
    subst (Before m.contact) (sym other.contact_is) here

pub greedy_falls : GreedyFalls
greedy_falls g t labels [] run k d below = absurd (omega arith)
greedy_falls g t labels (m ∷ []) run k d below = absurd (omega arith)
greedy_falls g t labels (m ∷ n ∷ merges) run zero d below = falls_step g t labels m n run.0 run.1.0
greedy_falls g t labels (m ∷ n ∷ merges) run (suc k) d below =
    let later = greedy_falls g t (after_merge labels m) (n ∷ merges) run.1 k d (omega arith) in
    let next : suc (k + 1) ≡ suc k + 1 = omega arith in
    subst (λ j. Before (get_or (n ∷ merges) k d).contact (get_or (m ∷ n ∷ merges) j d).contact) next later
