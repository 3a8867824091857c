use Rattle.std.proofs.Common.{inl, refl, arith, [], ◌∷◌}
use Rattle.agglo_model.specs.Contacts.{total}
use Rattle.agglo_model.specs.GreedyExamples.{row_volume}
use Rattle.agglo_model.proofs.FirstPairs.{IsFirstPair-by_test, no_contact-by_test}
use Rattle.agglo_model.proofs.greedy_examples.merges_at_the_threshold.Goals as goal

pub returns-clause-run : goal.returns-clause-run
unfolding total
returns-clause-run c = (
  record { first = IsFirstPair-by_test _ _ 1 3 refl; contact_is = refl; reaches = omega arith },
  inl (no_contact-by_test (row_volume (200 ∷ 50 ∷ 180 ∷ [])) (1 ∷ 1 ∷ 1 ∷ 1 ∷ []) refl),
)
