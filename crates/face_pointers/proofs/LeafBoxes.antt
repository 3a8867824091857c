-- The cells of nodes as boxes of the volume, and the leaf that holds a voxel.
use Rattle.std.proofs.Common.{◌≡◌, ℕ, ◌<◌, ap, arith}
use Rattle.agglo_model.specs.Axes.{voxel_count}
use Rattle.agglo_model.specs.Boxes.{IsBoxOf}
use Rattle.agglo_model.specs.Cell.{IsInBox}
use Rattle.agglo_model.specs.Cutting.{Chunking, IsChunking, cell_length, cells_at, leaf_of, level_grid, level_of, low_corner, high_corner, node_at, node_count}
use Rattle.agglo_model.proofs.Places.{voxel_at-lt}
use Rattle.agglo_model.proofs.Levels.{cell_length_pos}
use Rattle.agglo_model.proofs.NodeCells.{cell_begins, node_place, voxel_cell}
use Rattle.agglo_model.proofs.NodeNesting.{leaf_level}
use Rattle.agglo_model.proofs.CellBoxes.{box-held, node-coordinates}
use Rattle.agglo_model.proofs.Cases.{begins_before}
use Rattle.agglo_model.proofs.WaitingCells.{leaf_below}

-- the cell of a node holds a voxel, and lies in the volume
pub cell_is_box : (t : Chunking) → IsChunking t → (m : ℕ) → m < node_count t
    → IsBoxOf t.axes (low_corner t m) (high_corner t m)
cell_is_box t h m below =
    let k = level_of t m in
    let place = node_place t h m below in
    record {
      some_x = begins_before _ (cell_length t k 0) t.axes.nx (cell_length_pos t h k 0) (cell_begins t h k 0 _ place.in_x);
      some_y = begins_before _ (cell_length t k 1) t.axes.ny (cell_length_pos t h k 1) (cell_begins t h k 1 _ place.in_y);
      some_z = begins_before _ (cell_length t k 2) t.axes.nz (cell_length_pos t h k 2) (cell_begins t h k 2 _ place.in_z);
      most_x = omega arith;
      most_y = omega arith;
      most_z = omega arith;
    }

-- the leaf of a voxel is a leaf, and its cell holds the voxel
pub leaf_of-lt : (t : Chunking) → IsChunking t → (v : ℕ) → v < voxel_count t.axes → leaf_of t v < cells_at t 0
leaf_of-lt t h v below = omega (arith, voxel_at-lt (level_grid t 0) _ _ _ (voxel_cell t h 0 v below))

pub leaf_holds : (t : Chunking) → IsChunking t → (v : ℕ) → v < voxel_count t.axes
    → IsInBox t.axes (low_corner t (leaf_of t v)) (high_corner t (leaf_of t v)) v
leaf_holds t h v below =
    let m = leaf_of t v in
    let leaf : m < cells_at t 0 = leaf_of-lt t h v below in
    let node = leaf_below t m leaf in
    let is : node_at t (level_of t m) v ≡ m = ap (λ k. node_at t k v) (leaf_level t m leaf) in
    box-held t h m v node below (node-coordinates t h m v node below is)
