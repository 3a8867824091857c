-- A run of reciprocal merges, put into pair order, is the greedy run, and there is one greedy run.
use Rattle.std.proofs.Common.{◌≡◌, inl, inr, ℕ, zero, suc, ◌+◌, ◌<◌, List, [], ◌∷◌, length, get_or, sym, ap, ◌∙◌, subst, arith}
use Rattle.std.specs.Prelude.{IsPermutation, Contains, AllPairs}
use Rattle.std.proofs.lemmas.List.Kept.{AllPairs-cons}
use Rattle.std.proofs.lemmas.List.Sorted.{IsPermutation-trans, IsPermutation-sym, Contains-permutation}
use Rattle.std.proofs.lemmas.List.Elements.{Contains-get_or}
use Rattle.agglo_model.specs.Grid.{Grid}
use Rattle.agglo_model.specs.PairOrder.{Threshold, Before}
use Rattle.agglo_model.specs.Greedy.{Merge, RanksFirst, IsGreedyRun, IsMutualRun, after_merge, after_merges}
use Rattle.agglo_model.specs.MergeLaws.{AreFalling, OneGreedyRun, SortedIsGreedy}
use Rattle.agglo_model.proofs.Means.{before_asym, before_trans}
use Rattle.agglo_model.proofs.Members.{contains_head, contains_tail, contains_cases, contains_none}
use Rattle.agglo_model.proofs.OneOrder.{one_order}
use Rattle.agglo_model.proofs.Falling.{greedy_falls}
use Rattle.agglo_model.proofs.GreedyRuns.{greedy_runs_exist}
use Rattle.agglo_model.proofs.MutualRuns.{greedy_is_mutual, any_order}

-- each merge of the list has a contact with some edge
abbrev HaveEdges : List Merge → Type 0
HaveEdges merges = (m : Merge) → Contains merges m → 0 < m.contact.count

have_edges : (g : Grid) (t : Threshold) (labels : List ℕ) (merges : List Merge)
    → IsMutualRun g t labels merges → HaveEdges merges
have_edges g t labels [] run x inside = absurd (contains_none x inside)
have_edges g t labels (m ∷ merges) run x inside = elim (contains_cases m x merges inside) [
  | inl same ↦ subst (λ y. 0 < y.contact.count) same
      (subst (λ c. 0 < c.count) (sym run.0.contact_is) run.0.reciprocal.touching)
  | inr later ↦ have_edges g t (after_merge labels m) merges run.1 x later
]

falling_tail : (m : Merge) (merges : List Merge) → AreFalling (m ∷ merges) → AreFalling merges
falling_tail m merges falling k d below =
    let next : suc k + 1 ≡ suc (k + 1) = omega arith in
    subst (λ j. Before (get_or merges k d).contact (get_or (m ∷ merges) j d).contact) next
    (falling (suc k) d (omega arith))

-- the head of a falling list comes before all that follow
head_first : (m : Merge) (merges : List Merge) → AreFalling (m ∷ merges) → HaveEdges (m ∷ merges)
    → (k : ℕ) (d : Merge) → k < length merges → Before m.contact (get_or merges k d).contact
head_first m merges falling edges zero d below = falling 0 d (omega arith)
head_first m merges falling edges (suc k) d below =
    let before = head_first m merges falling edges k d (omega arith) in
    let next : suc k + 1 ≡ suc (suc k) = omega arith in
    let step = subst (λ j. Before (get_or merges k d).contact (get_or (m ∷ merges) j d).contact) next
    (falling (suc k) d (omega arith)) in
    before_trans m.contact (get_or merges k d).contact (get_or merges (suc k) d).contact
    (edges m (contains_head m merges))
    (edges (get_or merges k d) (contains_tail m (get_or merges k d) merges (at_place k (omega arith))))
    (edges (get_or merges (suc k) d) (contains_tail m (get_or merges (suc k) d) merges (at_place (suc k) below)))
    before step
  where
    at_place : (j : ℕ) → j < length merges → Contains merges (get_or merges j d)
    at_place j inside = Contains-get_or merges j d inside

-- so each comes before all that follow
falling_apart : (merges : List Merge) → AreFalling merges → HaveEdges merges → AllPairs RanksFirst merges
falling_apart [] falling edges = λ i j d before below. absurd (omega arith)
falling_apart (m ∷ merges) falling edges =
    AllPairs-cons RanksFirst m merges (λ k d below. head_first m merges falling edges k d below)
    (falling_apart merges (falling_tail m merges falling) (λ x inside. edges x (contains_tail m x merges inside)))

-- two falling lists of the same merges are one list
one_list : (merges others : List Merge) → HaveEdges merges → AreFalling merges → AreFalling others
    → IsPermutation merges others → merges ≡ others
one_list merges others edges falling falling' same =
    let back = IsPermutation-sym merges others same in
    one_order RanksFirst (λ m n. before_asym m.contact n.contact) merges others
    (falling_apart merges falling edges)
    (falling_apart others falling' (λ x inside. edges x (Contains-permutation others merges x back inside)))
    (λ x inside. Contains-permutation merges others x same inside)
    (λ x inside. Contains-permutation others merges x back inside)

pub sorted_is_greedy : SortedIsGreedy
sorted_is_greedy g t labels merges sorted run moved falling =
    let greedy = (greedy_runs_exist g t labels).0 in
    let is_run = (greedy_runs_exist g t labels).1 in
    let same = any_order g t labels merges greedy run is_run in
    let equal : greedy ≡ sorted = one_list greedy sorted
    (have_edges g t labels greedy (greedy_is_mutual g t labels greedy is_run))
    (greedy_falls g t labels greedy is_run) falling
    (IsPermutation-trans greedy merges sorted (IsPermutation-sym merges greedy same.same_merges) moved) in
    (subst (IsGreedyRun g t labels) equal is_run, same.same_labels ∙ ap (after_merges labels) equal)

pub one_greedy_run : OneGreedyRun
one_greedy_run g t labels merges others run other =
    let pairs = greedy_is_mutual g t labels merges run in
    let same = any_order g t labels merges others pairs other in
    let equal = one_list merges others (have_edges g t labels merges pairs) (greedy_falls g t labels merges run)
    (greedy_falls g t labels others other) same.same_merges in
    (equal, same.same_labels)
