-- What the levels and families of nodes that a walk goes over mean.
use Rattle.std.specs.Prelude.{◌≡◌, ℕ, ◌*◌, ◌≤◌, suc}
use Rattle.agglo_model.specs.Cutting.{Chunking, last_level, first_node, level_grid, level_of, cell_place, children_grid}
use Rattle.chunk_tree.specs.declared.level.Level.{Level}
use Rattle.chunk_tree.specs.declared.level.Children.{Children}

-- a level of this cutting, with its first node and its grid of cells
pub record IsLevel (t : Chunking) (level : Level) : Type 0 where
  pub reached : level.number ≤ last_level t
  pub first : level.first ≡ first_node t level.number
  pub grid : level.grid ≡ level_grid t level.number

-- the children of node m: from this place on in the grid of the level below, as a small grid
pub record AreChildren (t : Chunking) (m : ℕ) (children : Children) : Type 0 where
  pub level : IsLevel t children.level
  pub below : suc children.level.number ≡ level_of t m
  pub from_x : children.x ≡ 2 * cell_place t m 0
  pub from_y : children.y ≡ 2 * cell_place t m 1
  pub from_z : children.z ≡ 2 * cell_place t m 2
  pub grid : children.grid ≡ children_grid t m
