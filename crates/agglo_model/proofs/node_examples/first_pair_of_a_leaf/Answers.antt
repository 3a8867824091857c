use Rattle.std.proofs.Common.{refl, arith}
use Rattle.agglo_model.specs.Contacts.{total}
use Rattle.agglo_model.specs.Cutting.{cells_on, last_level, level_of}
use Rattle.agglo_model.specs.Greedy.{after_merge}
use Rattle.agglo_model.specs.GreedyExamples.{mean_of}
use Rattle.agglo_model.specs.NodeExamples.{six_pairs, six_labels, cut_six, merge_1_3, merge_5_7}
use Rattle.agglo_model.proofs.NodeTests.{IsMutual-by_test, IsReciprocal-by_order, IsFirstNodeStep-by_test, no_reciprocal-by_test}
use Rattle.agglo_model.proofs.node_examples.first_pair_of_a_leaf.Goals as goal

pub returns-clause-ordered : goal.returns-clause-ordered
unfolding total cells_on last_level level_of
returns-clause-ordered c = (
  IsFirstNodeStep-by_test six_pairs (mean_of 50 1) cut_six 0 six_labels 5 7
      (IsReciprocal-by_order six_pairs (mean_of 50 1) cut_six 0 six_labels 5 7 refl) refl,
  (
    IsFirstNodeStep-by_test six_pairs (mean_of 50 1) cut_six 0 (after_merge six_labels merge_5_7) 1 3
        (IsReciprocal-by_order six_pairs (mean_of 50 1) cut_six 0 (after_merge six_labels merge_5_7) 1 3 refl) refl,
    no_reciprocal-by_test six_pairs (mean_of 50 1) cut_six 0
        (after_merge (after_merge six_labels merge_5_7) merge_1_3) refl,
  ),
)

pub returns-clause-elsewhere : goal.returns-clause-elsewhere
unfolding total
returns-clause-elsewhere c = IsMutual-by_test six_pairs (mean_of 50 1) six_labels 9 11 refl (omega arith)
