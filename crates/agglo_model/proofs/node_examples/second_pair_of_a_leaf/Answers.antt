use Rattle.std.proofs.Common.{inl, refl, arith}
use Rattle.agglo_model.specs.Contacts.{total}
use Rattle.agglo_model.specs.Cutting.{cells_on, last_level, level_of}
use Rattle.agglo_model.specs.Greedy.{after_merge}
use Rattle.agglo_model.specs.GreedyExamples.{mean_of}
use Rattle.agglo_model.specs.NodeExamples.{six_pairs, six_labels, cut_six, merge_1_3, merge_5_7}
use Rattle.agglo_model.specs.Work.{IsReciprocal, IsFirstNodeStep}
use Rattle.agglo_model.proofs.NodeTests.{IsReciprocal-by_order, no_reciprocal-by_test}
use Rattle.agglo_model.proofs.node_examples.second_pair_of_a_leaf.Goals as goal

-- the pair of 5 and 7 is reciprocal, too, and comes first
pair_5_7 : IsReciprocal six_pairs (mean_of 50 1) cut_six 0 six_labels 5 7
unfolding total cells_on last_level level_of
pair_5_7 = IsReciprocal-by_order six_pairs (mean_of 50 1) cut_six 0 six_labels 5 7 refl

not_first : IsFirstNodeStep six_pairs (mean_of 50 1) cut_six 0 six_labels merge_1_3 → ⊥
unfolding total
not_first step = let before = step.first 5 7 pair_5_7 (inl (omega arith)) in omega (arith, before)

pub returns-clause-work : goal.returns-clause-work
unfolding total cells_on last_level level_of
returns-clause-work c = (
  record {
    reciprocal = IsReciprocal-by_order six_pairs (mean_of 50 1) cut_six 0 six_labels 1 3 refl;
    contact_is = refl;
  },
  (
    record {
      reciprocal = IsReciprocal-by_order six_pairs (mean_of 50 1) cut_six 0 (after_merge six_labels merge_1_3) 5 7 refl;
      contact_is = refl;
    },
    no_reciprocal-by_test six_pairs (mean_of 50 1) cut_six 0
        (after_merge (after_merge six_labels merge_1_3) merge_5_7) refl,
  ),
)

pub returns-clause-broken : goal.returns-clause-broken
returns-clause-broken c = not_first

pub returns-clause-refused : goal.returns-clause-refused
returns-clause-refused c = λ ordered. not_first ordered.0
