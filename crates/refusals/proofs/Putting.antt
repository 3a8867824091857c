-- A put, and then the puts of the rest.
use Rattle.std.proofs.Common.{◌≡◌, ℕ, Result, MatchResult, List, ◌++◌, subst}
use Rattle.std.proofs.lemmas.Result.{MatchResult-weaker}
use Rattle.seg_io.specs.Desk.{DeskState}
use Rattle.seg_io.specs.Piecing.{PiecerState, Puts, FailsToPut}
use Rattle.seg_io.proofs.Piecing.{Puts-more, Puts-fails, FailsToPut-sooner}

-- the rest fails
pub rest_fails : (a bytes rest : List ℕ) (p q r : PiecerState) (s t u : DeskState) → bytes ≡ a
    → Puts bytes p q s t → FailsToPut rest q r t u → FailsToPut (a ++ rest) p r s u
rest_fails a bytes rest p q r s t u e put fails =
    Puts-fails a rest p q r s t u (subst (λ (l : List ℕ). Puts l p q s t) e put) fails

-- the front of the rest fails
pub front_fails : (a b : List ℕ) (bytes : List ℕ) (p q : PiecerState) (s t : DeskState) → bytes ≡ a
    → FailsToPut bytes p q s t → FailsToPut (a ++ b) p q s t
front_fails a b bytes p q s t e fails =
    FailsToPut-sooner a b p q s t (subst (λ (l : List ℕ). FailsToPut l p q s t) e fails)

-- the rest is put, or fails
pub rest_put : {X E : Type 0} (result : Result X E) (a bytes rest : List ℕ) (p q r : PiecerState) (s t u : DeskState) → bytes ≡ a
    → Puts bytes p q s t → MatchResult result (λ _. Puts rest q r t u) (λ _. FailsToPut rest q r t u)
    → MatchResult result (λ _. Puts (a ++ rest) p r s u) (λ _. FailsToPut (a ++ rest) p r s u)
rest_put result a bytes rest p q r s t u e put outcome =
    MatchResult-weaker result outcome
    (λ _ more. Puts-more a rest p q r s t u (subst (λ (l : List ℕ). Puts l p q s t) e put) more)
    (λ _ fails. rest_fails a bytes rest p q r s t u e put fails)
