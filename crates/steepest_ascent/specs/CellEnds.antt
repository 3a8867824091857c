-- What the ascents from the voxels of a cell come to, as far as they go within the cell.
use Rattle.std.specs.Prelude.{◌≡◌, ℕ, List, length, slice_index_or}
use Rattle.agglo_model.specs.Axes.{Axes, voxel_count}
use Rattle.agglo_model.specs.Boxes.{box_grid, box_index}
use Rattle.agglo_model.specs.Cell.{IsInBox}
use Rattle.agglo_model.specs.Grid.{Grid}
use Rattle.agglo_model.specs.EdgeOrder.{HasNoBest}
use Rattle.seg_base.specs.declared.cell.Cell.{Cell}
use Rattle.steepest_ascent.specs.Turns.{EndsWith, ClimbsTo}
use Rattle.steepest_ascent.specs.declared.ends.End.{End}
use Rattle.steepest_ascent.specs.declared.ends.End.TheVariants.{Background, Root, Exit}

-- voxel v lies in the cell
abbrev pub IsInCell : Axes → Cell → ℕ → Type 0
IsInCell a cell v = IsInBox a cell.lo cell.hi v

-- The end of a voxel: it is background; or its best edge is also that of the far end, wherever that lies; or
-- its best edge leads on to a voxel outside the cell; or to one in the cell, whose end it shares.
pub data IsEndOf (g : Grid) (low : ℕ) (cell : Cell) : ℕ → End → Type 0 where
  Stays : {v : ℕ} → HasNoBest g low v → IsEndOf g low cell v Background
  Ends : {v name : ℕ} → EndsWith g low v name → IsEndOf g low cell v (Root name)
  Leaves : {v w : ℕ} → ClimbsTo g low v w → ¬ (IsInCell g.axes cell w) → IsEndOf g low cell v (Exit w)
  Climbs : {v w : ℕ} {end : End} → ClimbsTo g low v w → IsInCell g.axes cell w → IsEndOf g low cell w end
      → IsEndOf g low cell v end

-- a cell, and an end for each of its voxels, with x fastest, then y, then z
pub record CellEnds : Type 0 where
  pub cell : Cell
  pub ends : List End

abbrev pub end_at : List End → ℕ → End
end_at ends i = slice_index_or ends i Background

-- the end of voxel v of the volume, which lies in the cell
abbrev pub end_of : Axes → CellEnds → ℕ → End
end_of a c v = end_at c.ends (box_index a c.cell.lo c.cell.hi v)

-- each voxel of the cell has its end
pub record IsClimb (g : Grid) (low : ℕ) (c : CellEnds) : Type 0 where
  pub one_each : length c.ends ≡ voxel_count (box_grid c.cell.lo c.cell.hi)
  pub each : (v : ℕ) → IsInCell g.axes c.cell v → IsEndOf g low c.cell v (end_of g.axes c v)
