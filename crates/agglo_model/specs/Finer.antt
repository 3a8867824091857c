-- A cutting that goes on inside the leaves of another one of the same volume, and the levels of the one by those of
-- the other.
use Rattle.std.specs.Prelude.{◌≡◌, ◌⊎◌, ℕ, zero, suc, ◌+◌, ◌≤◌, List, [], ◌∷◌}
use Rattle.agglo_model.specs.Cutting.{Chunking, IsChunking, length_on, cell_length, last_level}
use Rattle.agglo_model.specs.Report.{Level}

-- on an axis the leaves of c are the cells of f's level k: they are as long, or both span the axis
abbrev pub AreCellsOn : Chunking → Chunking → ℕ → ℕ → Type 0
AreCellsOn c f k axis = (length_on c.leaf axis ≡ cell_length f k axis)
    ⊎ ((length_on c.axes axis ≤ length_on c.leaf axis) × (length_on c.axes axis ≤ cell_length f k axis))

-- the leaves of c are the cells of f's level k, which comes after k levels of f that c does not have
pub record IsFiner (c f : Chunking) (k : ℕ) : Type 0 where
  pub cutting : IsChunking f
  pub axes : f.axes ≡ c.axes
  pub on_x : AreCellsOn c f k 0
  pub on_y : AreCellsOn c f k 1
  pub on_z : AreCellsOn c f k 2
  pub levels : last_level f ≡ last_level c + k

-- two levels as one: the nodes of the higher, with the merges of both
abbrev pub joined_levels : Level → Level → Level
joined_levels low high = record { nodes = high.nodes; merges = low.merges + high.merges; passed = high.passed }

-- the levels where the first two are one
abbrev pub first_joined : List Level → List Level
first_joined [] = []
first_joined (level ∷ []) = level ∷ []
first_joined (low ∷ high ∷ levels) = joined_levels low high ∷ levels

-- the levels where the first k + 1 are one
abbrev pub coarsened : ℕ → List Level → List Level
coarsened zero levels = levels
coarsened (suc k) levels = coarsened k (first_joined levels)
