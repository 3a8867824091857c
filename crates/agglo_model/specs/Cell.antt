-- Boxes of voxels.
use Rattle.std.specs.Prelude.{ℕ, ◌<◌, ◌≤◌, List, slice_index}
use Rattle.agglo_model.specs.Axes.{Axes, coordinate}

-- Voxel v lies in the box from `lo` up to, but not including, `hi`: on each axis its coordinate is in
-- that range.
pub record IsInBox (a : Axes) (lo hi : List ℕ) (v : ℕ) : Type 0 where
  pub from_x : slice_index lo 0 ≤ coordinate a v 0
  pub to_x : coordinate a v 0 < slice_index hi 0
  pub from_y : slice_index lo 1 ≤ coordinate a v 1
  pub to_y : coordinate a v 1 < slice_index hi 1
  pub from_z : slice_index lo 2 ≤ coordinate a v 2
  pub to_z : coordinate a v 2 < slice_index hi 2
