-- What an ascent goes by: a volume, the threshold of its strong edges, and the best step of each voxel.
use Rattle.std.specs.Prelude.{◌≡◌, ℕ, ◌*◌, List, length}
use Rattle.agglo_model.specs.Axes.{voxel_count}
use Rattle.agglo_model.specs.Grid.{Grid, IsWhole}
use Rattle.edge_order.specs.declared.step.Step.{Step}
use Rattle.edge_order.specs.Steps.{AreBestSteps}

pub record Terrain : Type 0 where
  pub grid : Grid
  pub low : ℕ

-- these are the best steps of the terrain, and the strides on its y and z axis
pub record IsCharted (t : Terrain) (row layer : ℕ) (steps : List Step) : Type 0 where
  pub whole : IsWhole t.grid
  pub rows : row ≡ t.grid.axes.nx
  pub layers : layer ≡ t.grid.axes.nx * t.grid.axes.ny
  pub one_each : length steps ≡ voxel_count t.grid.axes
  pub best : AreBestSteps t.grid t.low steps
