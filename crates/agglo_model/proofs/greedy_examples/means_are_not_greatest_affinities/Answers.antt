use Rattle.std.proofs.Common.{inr, refl, arith}
use Rattle.agglo_model.specs.Contacts.{total}
use Rattle.agglo_model.proofs.FirstPairs.{IsFirstPair-by_test}
use Rattle.agglo_model.proofs.greedy_examples.means_are_not_greatest_affinities.Goals as goal

pub returns-clause-run : goal.returns-clause-run
unfolding total
returns-clause-run c = (
  record { first = IsFirstPair-by_test _ _ 3 5 refl; contact_is = refl; reaches = omega arith },
  inr (1, 3, IsFirstPair-by_test _ _ 1 3 refl, λ reaches. omega (arith, reaches)),
)

pub returns-clause-first : goal.returns-clause-first
unfolding total
returns-clause-first c = IsFirstPair-by_test _ _ 1 3 refl

pub returns-clause-contact : goal.returns-clause-contact
unfolding total
returns-clause-contact c = refl

pub returns-clause-broken : goal.returns-clause-broken
returns-clause-broken c = λ step. omega (arith, step.reaches)

pub returns-clause-refused : goal.returns-clause-refused
returns-clause-refused c = λ run. omega (arith, run.1.0.reaches)
