-- A volume in pieces, with the ends of the ascents within each.
use Rattle.std.specs.Prelude.{◌≡◌, ℕ, ◌+◌, ◌<◌, List, length, slice_index, slice_index_or}
use Rattle.agglo_model.specs.Axes.{Axes, voxel_count}
use Rattle.agglo_model.specs.Basins.{label_of}
use Rattle.agglo_model.specs.Boxes.{box_grid, box_voxel}
use Rattle.agglo_model.specs.Cutting.{Chunking, IsChunking, cells_at, low_corner, high_corner}
use Rattle.agglo_model.specs.Grid.{Grid, IsWhole}
use Rattle.face_pointers.specs.Exits.{TellsOf}
use Rattle.steepest_ascent.specs.CellEnds.{CellEnds, IsClimb, end_at}
use Rattle.steepest_ascent.specs.Progress.{IsLabelOf}

-- these are the ends within the cell of leaf m
pub record IsLeafClimb (g : Grid) (low : ℕ) (t : Chunking) (m : ℕ) (piece : CellEnds) : Type 0 where
  pub low_is : piece.cell.lo ≡ low_corner t m
  pub high_is : piece.cell.hi ≡ high_corner t m
  pub climb : IsClimb g low piece

-- these are the ends within the cell of each leaf, in order of number
pub record AreClimbs (g : Grid) (low : ℕ) (t : Chunking) (pieces : List CellEnds) : Type 0 where
  pub one_each : length pieces ≡ cells_at t 0
  pub each : (m : ℕ) (d : CellEnds) → m < length pieces → IsLeafClimb g low t m (slice_index_or pieces m d)

-- a volume, the threshold of its strong edges, and a cutting
pub record Parts : Type 0 where
  pub grid : Grid
  pub low : ℕ
  pub cutting : Chunking

-- the cell of leaf m as a grid of its own, and the voxel of the volume that is voxel i of it
abbrev pub leaf_grid : Parts → ℕ → Axes
leaf_grid p m = box_grid (low_corner p.cutting m) (high_corner p.cutting m)

abbrev pub leaf_voxel : Parts → ℕ → ℕ → ℕ
leaf_voxel p m i = box_voxel p.grid.axes (low_corner p.cutting m) (high_corner p.cutting m) i

-- the cutting is one of the volume
pub record IsCut (p : Parts) : Type 0 where
  pub whole : IsWhole p.grid
  pub cutting : IsChunking p.cutting
  pub axes : p.cutting.axes ≡ p.grid.axes

-- an end for each voxel of leaf m, which tells of it
pub record IsPiece (p : Parts) (m : ℕ) (piece : CellEnds) : Type 0 where
  pub low_is : piece.cell.lo ≡ low_corner p.cutting m
  pub high_is : piece.cell.hi ≡ high_corner p.cutting m
  pub one_each : length piece.ends ≡ voxel_count (leaf_grid p m)
  pub tells : (i : ℕ) → i < voxel_count (leaf_grid p m) → TellsOf p.grid p.low (leaf_voxel p m i) (end_at piece.ends i)

-- these are such ends for each leaf of the cutting, in order of number
pub record AreParts (p : Parts) (pieces : List CellEnds) : Type 0 where
  pub cut : IsCut p
  pub one_each : length pieces ≡ cells_at p.cutting 0
  pub each : (m : ℕ) (d : CellEnds) → m < length pieces → IsPiece p m (slice_index_or pieces m d)

-- the first labels of the list, as many as this, are those of the voxels from `first` on
abbrev pub AreLabelsFrom : Parts → ℕ → List ℕ → ℕ → Type 0
AreLabelsFrom p first labels many = (k : ℕ) → k < many → IsLabelOf p.grid p.low (first + k) (label_of labels k)

-- these are voxels of the volume
abbrev pub AreVoxels : Parts → List ℕ → Type 0
AreVoxels p voxels = (k : ℕ) → k < length voxels → slice_index voxels k < voxel_count p.grid.axes
