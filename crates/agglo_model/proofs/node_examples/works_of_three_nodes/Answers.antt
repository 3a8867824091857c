use Rattle.std.proofs.Common.{ℕ, inr, refl, arith}
use Rattle.agglo_model.specs.PairOrder.{Reaches}
use Rattle.agglo_model.specs.Contacts.{total, between}
use Rattle.agglo_model.specs.Greedy.{IsMutual}
use Rattle.agglo_model.specs.Cutting.{cells_on, last_level, level_of}
use Rattle.agglo_model.specs.GreedyExamples.{mean_of}
use Rattle.agglo_model.specs.NodeExamples.{four_pairs, cut_pairs, pairs_after_leaves, pairs_after_root}
use Rattle.agglo_model.proofs.FirstPairs.{IsFirstPair-by_test}
use Rattle.agglo_model.proofs.MutualRuns.{end_has_no_mutual}
use Rattle.agglo_model.proofs.NodeTests.{IsReciprocal-by_test, no_reciprocal-by_test}
use Rattle.agglo_model.proofs.node_examples.works_of_three_nodes.Goals as goal

-- the contact of mean 90 is the first pair that is left
low : Reaches (mean_of 100 1) (between four_pairs pairs_after_root 1 5) → ⊥
unfolding total
low reaches = omega (arith, reaches)

root_ends : (a b : ℕ) → ¬ (IsMutual four_pairs (mean_of 100 1) pairs_after_root a b)
unfolding total
root_ends = end_has_no_mutual four_pairs (mean_of 100 1) pairs_after_root
    (inr (1, 5, IsFirstPair-by_test _ _ 1 5 refl, low))

pub returns-clause-works : goal.returns-clause-works
unfolding total cells_on last_level level_of
returns-clause-works c = record {
  one_each = refl;
  worked = (
    (
      record { reciprocal = IsReciprocal-by_test _ _ _ 0 _ 1 3 refl (omega arith) refl; contact_is = refl },
      no_reciprocal-by_test four_pairs (mean_of 100 1) cut_pairs 0 pairs_after_leaves refl,
    ),
    (
      no_reciprocal-by_test four_pairs (mean_of 100 1) cut_pairs 1 pairs_after_leaves refl,
      (
        (
          record { reciprocal = IsReciprocal-by_test _ _ _ 2 _ 5 7 refl (omega arith) refl; contact_is = refl },
          λ a b pair. root_ends a b pair.pair,
        ),
        tt,
      ),
    ),
  );
}
