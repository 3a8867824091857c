-- Reciprocal merges in any order: every run from the same labels ends in the same labels.
use Rattle.std.proofs.Common.{inl, inr, ℕ, List, [], ◌∷◌, sym, subst, arith}
use Rattle.agglo_model.specs.Grid.{Grid}
use Rattle.agglo_model.specs.PairOrder.{Threshold, Reaches}
use Rattle.agglo_model.specs.Contacts.{between}
use Rattle.agglo_model.specs.Greedy.{Merge, IsFirstPair, IsGreedyEnd, IsGreedyRun, IsMutual, IsMutualRun, after_merge}
use Rattle.agglo_model.specs.MergeLaws.{AnyOrder, SameOutcome}
use Rattle.agglo_model.proofs.Means.{before-reaches}
use Rattle.agglo_model.proofs.Diamonds.{diamond}
use Rattle.agglo_model.proofs.PairRuns.{IsRunOf, ArePairsKept, pair_cases, one_outcome}
use Rattle.agglo_model.proofs.Falling.{first-any}

-- a reciprocal pair is still one after the merge of another
mutual_kept : (g : Grid) (t : Threshold) → ArePairsKept (IsMutual g t) g
mutual_kept g t labels a b c d one other apart =
    let square = diamond g t labels a b c d one other apart in
    record {
      still = square.still_mutual;
      same_contact = square.same_contact;
      either_order = square.either_order;
    }

-- a run of reciprocal merges as a run of merges of pairs
to_pairs : (g : Grid) (t : Threshold) (labels : List ℕ) (merges : List Merge) → IsMutualRun g t labels merges
    → IsRunOf (IsMutual g t) g labels merges
to_pairs g t labels [] run = run
to_pairs g t labels (m ∷ merges) run = (
  record { pair = run.0.reciprocal; contact_is = run.0.contact_is },
  to_pairs g t (after_merge labels m) merges run.1,
)

-- two runs of reciprocal merges from the same labels have the same outcome
same_outcome : (g : Grid) (t : Threshold) (labels : List ℕ) (merges others : List Merge)
    → IsMutualRun g t labels merges → IsMutualRun g t labels others → SameOutcome labels merges others
same_outcome g t labels merges others run other =
    one_outcome (IsMutual g t) g (mutual_kept g t) labels merges others
    (to_pairs g t labels merges run) (to_pairs g t labels others other)

-- a first pair that reaches the threshold is reciprocal
pub first_is_mutual : (g : Grid) (t : Threshold) (labels : List ℕ) (a b : ℕ) → IsFirstPair g labels a b
    → Reaches t (between g labels a b) → IsMutual g t labels a b
first_is_mutual g t labels a b pair reaches = record {
  ordered = pair.ordered;
  touching = pair.touching;
  first_of_a = λ c cb touching. first-any {g = g} {labels = labels} {a = a} {b = b} pair a c touching
      (inr cb) (inl (λ e. absurd (omega (arith, pair.ordered, e))));
  first_of_b = λ c ca touching. first-any {g = g} {labels = labels} {a = a} {b = b} pair b c touching
      (inl (λ e. absurd (omega (arith, pair.ordered, e)))) (inr ca);
  reaches = reaches;
}

-- where the first pair doesn't reach the threshold, no pair does
pub end_has_no_mutual : (g : Grid) (t : Threshold) (labels : List ℕ) → IsGreedyEnd g t labels
    → (a b : ℕ) → ¬ (IsMutual g t labels a b)
end_has_no_mutual g t labels (inl none) a b pair = none a b pair.touching
end_has_no_mutual g t labels (inr (c, d, first, low)) a b pair =
    elim (pair_cases c d a b) [
      | inl same ↦ low (subst (Reaches t) (λ i. between g labels (sym same.0 i) (sym same.1 i)) pair.reaches)
      | inr apart ↦ low (before-reaches t (between g labels c d) (between g labels a b) pair.touching
          (first.first a b pair.ordered pair.touching apart) pair.reaches)
    ]

pub greedy_is_mutual : (g : Grid) (t : Threshold) (labels : List ℕ) (merges : List Merge)
    → IsGreedyRun g t labels merges → IsMutualRun g t labels merges
greedy_is_mutual g t labels [] run = end_has_no_mutual g t labels run
greedy_is_mutual g t labels (m ∷ merges) run = (
  record {
    reciprocal = first_is_mutual g t labels m.survivor m.absorbed run.0.first
        (subst (Reaches t) run.0.contact_is run.0.reaches);
    contact_is = run.0.contact_is;
  },
  greedy_is_mutual g t (after_merge labels m) merges run.1,
)

pub any_order : AnyOrder
any_order g t labels merges greedy run other =
    same_outcome g t labels merges greedy run (greedy_is_mutual g t labels greedy other)
