-- The leaves of a cutting and their cells.
use Rattle.std.proofs.Common.{ℕ, ◌<◌, sym, subst}
use Rattle.agglo_model.specs.Axes.{voxel_count}
use Rattle.agglo_model.specs.Boxes.{IsBoxOf}
use Rattle.agglo_model.specs.Cell.{IsInBox}
use Rattle.agglo_model.specs.Cutting.{cells_at, leaf_of, low_corner, high_corner}
use Rattle.agglo_model.proofs.BoxPlaces.{IsBoxPlace, box_voxel-lt, place_of_box}
use Rattle.agglo_model.proofs.WaitingCells.{leaf_below}
use Rattle.face_pointers.specs.Pieces.{IsCut, Parts, leaf_grid, leaf_voxel}
use Rattle.face_pointers.proofs.LeafBoxes.{cell_is_box, leaf_holds, leaf_of-lt}

-- the cell of a leaf is a box of the volume
pub leaf_is_box : (p : Parts) (m : ℕ) → IsCut p → m < cells_at p.cutting 0
    → IsBoxOf p.grid.axes (low_corner p.cutting m) (high_corner p.cutting m)
leaf_is_box p m h leaf = subst (λ a. IsBoxOf a (low_corner p.cutting m) (high_corner p.cutting m)) h.axes
    (cell_is_box p.cutting h.cutting m (leaf_below p.cutting m leaf))

-- each voxel has a leaf, which holds it
pub has_leaf : (p : Parts) (v : ℕ) → IsCut p → v < voxel_count p.grid.axes → leaf_of p.cutting v < cells_at p.cutting 0
has_leaf p v h lt = leaf_of-lt p.cutting h.cutting v (subst (λ a. v < voxel_count a) (sym h.axes) lt)

pub leaf_of_holds : (p : Parts) (v : ℕ) → IsCut p → v < voxel_count p.grid.axes
    → IsInBox p.grid.axes (low_corner p.cutting (leaf_of p.cutting v)) (high_corner p.cutting (leaf_of p.cutting v)) v
leaf_of_holds p v h lt = subst (λ a. IsInBox a (low_corner p.cutting (leaf_of p.cutting v)) (high_corner p.cutting (leaf_of p.cutting v)) v) h.axes
    (leaf_holds p.cutting h.cutting v (subst (λ a. v < voxel_count a) (sym h.axes) lt))

-- the place of a voxel of a leaf
pub leaf_box_place : (p : Parts) (m i : ℕ) → IsCut p → m < cells_at p.cutting 0 → i < voxel_count (leaf_grid p m)
    → IsBoxPlace p.grid.axes (low_corner p.cutting m) (high_corner p.cutting m) i
leaf_box_place p m i h leaf lt =
    place_of_box p.grid.axes (low_corner p.cutting m) (high_corner p.cutting m) i h.whole.limits (leaf_is_box p m h leaf) lt

-- a voxel of a leaf is a voxel of the volume
pub leaf_voxel-lt : (p : Parts) (m i : ℕ) → IsCut p → m < cells_at p.cutting 0 → i < voxel_count (leaf_grid p m)
    → leaf_voxel p m i < voxel_count p.grid.axes
leaf_voxel-lt p m i h leaf lt =
    box_voxel-lt p.grid.axes (low_corner p.cutting m) (high_corner p.cutting m) i h.whole.limits (leaf_is_box p m h leaf) lt
