-- Two levels made one, again and again.
use Rattle.std.proofs.Common.{◌≡◌, ℕ, suc, ◌+◌, ◌-◌, ◌<◌, List, [], ◌∷◌, length, sum_by, refl, sym, ap, arith}
use Rattle.std.proofs.lemmas.List.Sums.{sum_by-cons}
use Rattle.agglo_model.specs.Finer.{coarsened, first_joined, joined_levels}
use Rattle.agglo_model.specs.Report.{Level}

pub joined_length : (levels : List Level) → 1 < length levels → length (first_joined levels) + 1 ≡ length levels
joined_length [] more = absurd (omega (arith, more))
joined_length (level ∷ []) more = absurd (omega (arith, more))
joined_length (low ∷ high ∷ levels) more = omega arith

-- no merge is lost
pub joined_merges : (levels : List Level)
    → sum_by (λ (level : Level). level.merges) (first_joined levels) ≡ sum_by (λ (level : Level). level.merges) levels
joined_merges [] = refl
joined_merges (level ∷ []) = refl
joined_merges (low ∷ high ∷ levels) = omega (
  arith,
  sum_by-cons (λ (level : Level). level.merges) (joined_levels low high) levels,
  sum_by-cons (λ (level : Level). level.merges) low (high ∷ levels),
  sum_by-cons (λ (level : Level). level.merges) high levels,
)

pub one_step : (more done : ℕ) (levels : List Level) → done < more
    → coarsened (more - (done + 1)) (first_joined levels) ≡ coarsened (more - done) levels
one_step more done levels left =
    let next : more - done ≡ suc (more - (done + 1)) = omega arith in
    ap (λ k. coarsened k levels) (sym next)
