-- A name that a node doesn't pass to its parent is stuck, so it is in no later merge.
use Rattle.std.proofs.Common.{◌≡◌, ◌≢◌, inl, inr, ℕ, zero, suc, ◌+◌, ◌<◌, ◌≤◌, List, [], ◌∷◌, length, take, get_or, Contains, sym, ap, ◌∙◌, subst, arith}
use Rattle.std.proofs.lemmas.Bool.{cases_lt}
use Rattle.std.proofs.lemmas.List.{take_all, get_or_past}
use Rattle.agglo_model.specs.Grid.{Grid}
use Rattle.agglo_model.specs.PairOrder.{Threshold}
use Rattle.agglo_model.specs.Greedy.{Merge, after_merge, after_merges}
use Rattle.agglo_model.specs.Connected.{AreConnected}
use Rattle.agglo_model.specs.Cutting.{Chunking}
use Rattle.agglo_model.specs.Work.{IsNodeStep, IsWork, all_merges, work_of, labels_before, labels_within, labels_after}
use Rattle.agglo_model.specs.NodeLaws.{AreWorksOn, IsDropped, DroppedNamesStay}
use Rattle.agglo_model.proofs.ConnectedWorks.{connected_after_step}
use Rattle.agglo_model.proofs.Works.{StepsKeep, work_at, works_keep, connected_before}
use Rattle.agglo_model.proofs.StuckNames.{IsStuck, stuck_from_first, stuck_apart, merge_apart, steps_keep_stuck}

-- each merge of a work has what every step at labels with a property has
pub work_each : (P : List ℕ → Type 0) (R : Merge → Type 0) (g : Grid) (t : Threshold) (c : Chunking) (m : ℕ)
    → StepsKeep P g t c m
    → ((labels : List ℕ) (step : Merge) → P labels → IsNodeStep g t c m labels step → R step)
    → (labels : List ℕ) (work : List Merge) → AreConnected g.axes labels → IsWork g t c m labels work → P labels
    → (k : ℕ) (d : Merge) → k < length work → R (get_or work k d)
work_each P R g t c m keep each labels [] connected work holds k d below = absurd (omega arith)
work_each P R g t c m keep each labels (step ∷ steps) connected work holds zero d below = each labels step holds work.0
work_each P R g t c m keep each labels (step ∷ steps) connected work holds (suc k) d below =
    work_each P R g t c m keep each (after_merge labels step) steps
    (connected_after_step g t c m labels step work.0 connected) work.1 (keep labels step connected work.0 holds)
    k d (omega arith)

-- what the steps of a work keep, its first merges keep
work_within : (P : List ℕ → Type 0) (g : Grid) (t : Threshold) (c : Chunking) (m : ℕ) → StepsKeep P g t c m
    → (labels : List ℕ) (work : List Merge) → AreConnected g.axes labels → IsWork g t c m labels work → P labels
    → (k : ℕ) → P (after_merges labels (take k work))
work_within P g t c m keep labels [] connected work holds zero = holds
work_within P g t c m keep labels [] connected work holds (suc k) = holds
work_within P g t c m keep labels (step ∷ steps) connected work holds zero = holds
work_within P g t c m keep labels (step ∷ steps) connected work holds (suc k) =
    work_within P g t c m keep (after_merge labels step) steps
    (connected_after_step g t c m labels step work.0 connected) work.1 (keep labels step connected work.0 holds) k

module _ (g : Grid) (t : Threshold) (c : Chunking) (labels : List ℕ) (works : List (List Merge)) (on : AreWorksOn g t c labels works)
    (m x : ℕ) (node : m < length works) (stuck : IsStuck g t x (labels_after labels works m)) where
  stuck_at : (n : ℕ) → m < n → n ≤ length works → IsStuck g t x (labels_before labels works n)
  stuck_at n after le = works_keep g t c labels works on (IsStuck g t x) (m + 1) n (omega arith) le
      (λ k low high. steps_keep_stuck g t c k x) stuck

  -- past the last node the labels stay
  past_last : (n : ℕ) → length works ≤ n
      → labels_before labels works (length works) ≡ labels_before labels works n
  past_last n past =
      ap (λ w. after_merges labels (all_merges w))
      (take_all (length works) works (omega arith) ∙ sym (take_all n works (omega arith)))

  stuck_later : (n : ℕ) → m < n → IsStuck g t x (labels_before labels works n)
  stuck_later n after = elim (cases_lt n (length works)) [
    | inl less ↦ stuck_at n after (omega arith)
    | inr past ↦ subst (IsStuck g t x) (past_last n past) (stuck_at (length works) node (omega arith))
  ]

  stuck_within : (n k : ℕ) → m < n → IsStuck g t x (labels_within labels works n k)
  stuck_within n k after = elim (cases_lt n (length works)) [
    | inl less ↦ work_within (IsStuck g t x) g t c n (steps_keep_stuck g t c n x)
        (labels_before labels works n) (work_of works n) (connected_before g t c labels works on n (omega arith))
        (work_at g t c labels works on.works_are n less) (stuck_at n after (omega arith)) k
    | inr past ↦ subst (λ w. IsStuck g t x (after_merges (labels_before labels works n) w))
        (sym (ap (take k) (get_or_past works n [] (omega arith)) ∙ take_all k [] (omega arith))) (stuck_later n after)
  ]

  merge_later : (n : ℕ) (merge : Merge) → m < n → Contains (work_of works n) merge
      → (merge.survivor ≢ x) × (merge.absorbed ≢ x)
  merge_later n merge after (k, below, is) = elim (cases_lt n (length works)) [
    | inl less ↦ subst (λ s. (s.survivor ≢ x) × (s.absorbed ≢ x)) is
        (work_each (IsStuck g t x) (λ s. (s.survivor ≢ x) × (s.absorbed ≢ x)) g t c n (steps_keep_stuck g t c n x)
        (λ l step here at. merge_apart g t c n x l step here at)
        (labels_before labels works n) (work_of works n) (connected_before g t c labels works on n (omega arith))
        (work_at g t c labels works on.works_are n less) (stuck_at n after (omega arith)) k merge below)
    | inr past ↦
        let none : length (work_of works n) ≡ 0 = ap length (get_or_past works n [] (omega arith)) in
        absurd (omega arith)
  ]

  is_dropped : IsDropped g t labels works m x
  is_dropped = record {
    in_no_merge = merge_later;
    in_no_pair = λ n k y z after first reaches.
        stuck_apart g t (labels_within labels works n k) x y z (stuck_within n k after) first.touching reaches;
  }

pub dropped_names_stay : DroppedNamesStay
dropped_names_stay g t c labels works on m x node name occurs not_passed =
    is_dropped g t c labels works on m x node
    (stuck_from_first g t (labels_after labels works m) x
    (λ first. not_passed (record { name = name; occurs = occurs; open_ = inr first })))
