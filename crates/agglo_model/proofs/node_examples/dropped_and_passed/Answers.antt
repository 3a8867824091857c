use Rattle.std.proofs.Common.{inl, inr, refl, arith, subst}
use Rattle.agglo_model.specs.PairOrder.{Reaches}
use Rattle.agglo_model.specs.Contacts.{total, between}
use Rattle.agglo_model.specs.Cutting.{cells_on, last_level, level_of}
use Rattle.agglo_model.specs.GreedyExamples.{mean_of}
use Rattle.agglo_model.specs.NodeExamples.{four_pairs, cut_pairs, pairs_after_leaves}
use Rattle.agglo_model.proofs.Freezing.{frozen_touches}
use Rattle.agglo_model.proofs.NodeTests.{only_partner-by_test, IsFirstPartner-by_test}
use Rattle.agglo_model.proofs.node_examples.dropped_and_passed.Goals as goal

low : Reaches (mean_of 100 1) (between four_pairs pairs_after_leaves 1 5) → ⊥
unfolding total
low reaches = omega (arith, reaches)

pub returns-clause-dropped : goal.returns-clause-dropped
unfolding total cells_on last_level level_of
returns-clause-dropped c = λ passed. elim passed.open_ [
  | inl frozen ↦ (frozen_touches cut_pairs 0 pairs_after_leaves 1).0 frozen refl
  | inr (y, first, reaches) ↦ low (subst (λ z. Reaches (mean_of 100 1) (between four_pairs pairs_after_leaves 1 z))
      (only_partner-by_test four_pairs pairs_after_leaves 1 5 refl y first.touching) reaches)
]

pub returns-clause-passed : goal.returns-clause-passed
unfolding cells_on last_level level_of
returns-clause-passed c = record {
  name = omega arith;
  occurs = refl;
  open_ = inl (record { voxel = 5; part = refl; at_face = inl (inr (refl, refl)) });
}

pub returns-clause-lower : goal.returns-clause-lower
unfolding total cells_on last_level level_of
returns-clause-lower c = record {
  name = omega arith;
  occurs = refl;
  open_ = inr (5, IsFirstPartner-by_test four_pairs pairs_after_leaves 1 5 (omega arith) refl, omega arith);
}
