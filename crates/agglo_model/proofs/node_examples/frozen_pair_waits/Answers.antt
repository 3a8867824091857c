use Rattle.std.proofs.Common.{refl, arith}
use Rattle.agglo_model.specs.Contacts.{total}
use Rattle.agglo_model.specs.Cutting.{cells_on, last_level, level_of}
use Rattle.agglo_model.proofs.NodeTests.{IsMutual-by_test, IsReciprocal-by_test}
use Rattle.agglo_model.proofs.node_examples.frozen_pair_waits.Goals as goal

pub returns-clause-mutual : goal.returns-clause-mutual
unfolding total
returns-clause-mutual c = IsMutual-by_test _ _ _ 5 7 refl (omega arith)

pub returns-clause-root : goal.returns-clause-root
unfolding total cells_on last_level level_of
returns-clause-root c = IsReciprocal-by_test _ _ _ 2 _ 5 7 refl (omega arith) refl
