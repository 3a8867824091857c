use Rattle.std.proofs.Common.{◌≡◌, ℕ, [], ◌∷◌, Option, None, Some, refl}
use Rattle.index_lists.proofs.examples.items_after_others.Goals as goal

pub returns-clause-skipped : goal.returns-clause-skipped
returns-clause-skipped c = λ next. let is : ◌≡◌ {A = Option ℕ} (Some 2) (Some 1) = next [] (1 ∷ 2 ∷ []) refl in cc

pub returns-clause-cut : goal.returns-clause-cut
returns-clause-cut c = λ next. let is : ◌≡◌ {A = Option ℕ} None (Some 2) = next (0 ∷ []) (2 ∷ []) refl in cc

pub returns-clause-past : goal.returns-clause-past
returns-clause-past c = λ next. let is : ◌≡◌ {A = Option ℕ} (Some 2) None = next (0 ∷ 1 ∷ []) [] refl in cc
