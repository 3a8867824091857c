use Rattle.std.proofs.Common.{inl, inr, refl, arith, [], ◌∷◌}
use Rattle.agglo_model.specs.Contacts.{total}
use Rattle.agglo_model.specs.GreedyExamples.{row_volume}
use Rattle.agglo_model.proofs.FirstPairs.{IsFirstPair-by_test, no_contact-by_test}
use Rattle.agglo_model.proofs.greedy_examples.weak_edges_are_contacts.Goals as goal

pub returns-clause-run : goal.returns-clause-run
unfolding total
returns-clause-run c = (
  record { first = IsFirstPair-by_test _ _ 1 3 refl; contact_is = refl; reaches = omega arith },
  inl (no_contact-by_test (row_volume (200 ∷ 0 ∷ 200 ∷ [])) (1 ∷ 1 ∷ 1 ∷ 1 ∷ []) refl),
)

pub returns-clause-no_end : goal.returns-clause-no_end
unfolding total
returns-clause-no_end c =
    λ stop. elim stop [
      | inl none ↦ none 1 3 (omega arith)
      | inr (a, b, pair, low) ↦ low (omega arith)
    ]
