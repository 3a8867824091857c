-- Which of two edges is stronger, and the strongest edge at a voxel.
use Rattle.std.specs.Prelude.{◌≡◌, ◌≢◌, ℕ, ◌<◌, ◌≤◌, ◌⊎◌, IsTrue}
use Rattle.agglo_model.specs.Axes.{is_edge, lower_end, higher_end}
use Rattle.agglo_model.specs.Grid.{Grid, affinity}

-- e comes before f: its affinity is greater, or the affinities are equal and its number is smaller
abbrev pub EdgeBefore : Grid → ℕ → ℕ → Type 0
EdgeBefore g e f = (affinity g f < affinity g e) ⊎ ((affinity g e ≡ affinity g f) × (e < f))

-- v is one of the two ends of e
abbrev pub Meets : Grid → ℕ → ℕ → Type 0
Meets g v e = (lower_end g.axes e ≡ v) ⊎ (higher_end e ≡ v)

-- e is an edge at voxel v whose affinity is at least low
pub record IsStrongAt (g : Grid) (low v e : ℕ) : Type 0 where
  pub edge : IsTrue (is_edge g.axes e)
  pub meets : Meets g v e
  pub strong : low ≤ affinity g e

-- e is the strong edge at v that comes before all others there
pub record IsBest (g : Grid) (low v e : ℕ) : Type 0 where
  pub strong : IsStrongAt g low v e
  pub first : (f : ℕ) → IsStrongAt g low v f → f ≢ e → EdgeBefore g e f

-- no edge is best at v
abbrev pub HasNoBest : Grid → ℕ → ℕ → Type 0
HasNoBest g low v = (e : ℕ) → ¬ (IsBest g low v e)
