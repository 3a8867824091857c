-- The voxels of a box, as a grid of their own.
use Rattle.std.specs.Prelude.{ℕ, ◌+◌, ◌-◌, ◌<◌, ◌≤◌, List, slice_index}
use Rattle.agglo_model.specs.Axes.{Axes, voxel_at, coordinate}

-- the lengths of the box's axes; its voxels are numbered as those of a volume of these axes
abbrev pub box_grid : List ℕ → List ℕ → Axes
box_grid lo hi = record {
  nx = slice_index hi 0 - slice_index lo 0;
  ny = slice_index hi 1 - slice_index lo 1;
  nz = slice_index hi 2 - slice_index lo 2;
}

-- the number in the volume of voxel i of the box
abbrev pub box_voxel : Axes → List ℕ → List ℕ → ℕ → ℕ
box_voxel a lo hi i = voxel_at a
    (slice_index lo 0 + coordinate (box_grid lo hi) i 0)
    (slice_index lo 1 + coordinate (box_grid lo hi) i 1)
    (slice_index lo 2 + coordinate (box_grid lo hi) i 2)

-- the number in the box of voxel v of the volume, which lies in it
abbrev pub box_index : Axes → List ℕ → List ℕ → ℕ → ℕ
box_index a lo hi v = voxel_at (box_grid lo hi)
    (coordinate a v 0 - slice_index lo 0)
    (coordinate a v 1 - slice_index lo 1)
    (coordinate a v 2 - slice_index lo 2)

-- the box holds a voxel, and lies in the volume
pub record IsBoxOf (a : Axes) (lo hi : List ℕ) : Type 0 where
  pub some_x : slice_index lo 0 < slice_index hi 0
  pub some_y : slice_index lo 1 < slice_index hi 1
  pub some_z : slice_index lo 2 < slice_index hi 2
  pub most_x : slice_index hi 0 ≤ a.nx
  pub most_y : slice_index hi 1 ≤ a.ny
  pub most_z : slice_index hi 2 ≤ a.nz
