use Rattle.std.proofs.Common.{inl, inr, refl, arith}
use Rattle.agglo_model.specs.NodeExamples.{contact_1_5}
use Rattle.agglo_model.proofs.node_examples.regions_that_are_left.Goals as goal

pub returns-clause-reached : goal.returns-clause-reached
returns-clause-reached c = (
  inr (contact_1_5, (0, omega arith, refl), inl refl, omega arith),
  inr (contact_1_5, (0, omega arith, refl), inr refl, omega arith),
)
