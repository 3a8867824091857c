use Rattle.std.proofs.Common.{inr, refl, arith}
use Rattle.agglo_model.specs.Contacts.{total}
use Rattle.agglo_model.proofs.FirstPairs.{IsFirstPair-by_test}
use Rattle.agglo_model.proofs.greedy_examples.stops_below_the_threshold.Goals as goal

pub returns : goal.returns
unfolding total
returns c = inr (1, 3, IsFirstPair-by_test _ _ 1 3 refl, λ reaches. omega (arith, reaches))
