use Rattle.std.proofs.Common.{inl, inr, refl, arith}
use Rattle.agglo_model.specs.Contacts.{total}
use Rattle.agglo_model.proofs.FirstPairs.{IsFirstPair-by_test}
use Rattle.agglo_model.proofs.greedy_examples.equal_means_go_by_tie.Goals as goal

pub returns-clause-run : goal.returns-clause-run
unfolding total
returns-clause-run c = (
  record { first = IsFirstPair-by_test _ _ 3 5 refl; contact_is = refl; reaches = omega arith },
  inr (1, 3, IsFirstPair-by_test _ _ 1 3 refl, λ reaches. omega (arith, reaches)),
)

pub returns-clause-not_by_names : goal.returns-clause-not_by_names
unfolding total
returns-clause-not_by_names c =
    λ pair. let before = pair.first 3 5 (omega arith) (omega arith) (inl (omega arith)) in omega (arith, before)

pub returns-clause-refused : goal.returns-clause-refused
unfolding total
returns-clause-refused c =
    λ step. let before = step.first.first 3 5 (omega arith) (omega arith) (inl (omega arith)) in omega (arith, before)
