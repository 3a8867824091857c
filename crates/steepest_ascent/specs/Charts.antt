-- What the ascents within a cell go by, and their ends while these are being filled in.
use Rattle.std.specs.Prelude.{◌≡◌, ◌≢◌, ℕ, ◌⊎◌, true, List, length, slice_index_or}
use Rattle.agglo_model.specs.Axes.{Axes, voxel_count}
use Rattle.agglo_model.specs.Boxes.{IsBoxOf, box_grid, box_voxel}
use Rattle.agglo_model.specs.Grid.{Grid, IsWhole}
use Rattle.edge_order.specs.Steps.{AreBoxSteps, leads_within}
use Rattle.edge_order.specs.declared.step.Step.{Step}
use Rattle.edge_order.specs.declared.step.Step.TheVariants.{Stay}
use Rattle.seg_base.specs.declared.cell.Cell.{Cell}
use Rattle.steepest_ascent.specs.CellEnds.{IsEndOf, end_at}
use Rattle.steepest_ascent.specs.declared.ends.End.{End}
use Rattle.steepest_ascent.specs.declared.ends.End.TheVariants.{Background}

-- a volume, the threshold of its strong edges, a cell, and a step for each voxel of the cell
pub record Chart : Type 0 where
  pub grid : Grid
  pub low : ℕ
  pub cell : Cell
  pub steps : List Step

-- the cell as a grid of its own
abbrev pub own_grid : Chart → Axes
own_grid t = box_grid t.cell.lo t.cell.hi

-- the voxel of the volume that is voxel i of the cell
abbrev pub voxel_of : Chart → ℕ → ℕ
voxel_of t i = box_voxel t.grid.axes t.cell.lo t.cell.hi i

-- the step of voxel i of the cell
abbrev pub step_of : Chart → ℕ → Step
step_of t i = slice_index_or t.steps i Stay

-- these are the best steps of the cell's voxels, and its lengths
pub record IsCharted (t : Chart) (own : Axes) : Type 0 where
  pub whole : IsWhole t.grid
  pub box : IsBoxOf t.grid.axes t.cell.lo t.cell.hi
  pub own_is : own ≡ own_grid t
  pub one_each : length t.steps ≡ voxel_count (own_grid t)
  pub best : AreBoxSteps t.grid t.low t.cell.lo t.cell.hi t.steps

-- the end of voxel i of the cell
abbrev pub IsEndAt : Chart → ℕ → End → Type 0
IsEndAt t i end = IsEndOf t.grid t.low t.cell (voxel_of t i) end

-- each entry is Background, or the end of its voxel
abbrev pub AreEndsSoFar : Chart → List End → Type 0
AreEndsSoFar t ends = (i : ℕ) → (end_at ends i ≡ Background) ⊎ IsEndAt t i (end_at ends i)

-- each entry is as before, or it is the end of its voxel now, and not Background
abbrev pub GainsEnds : Chart → List End → List End → Type 0
GainsEnds t before after = (i : ℕ)
    → (end_at after i ≡ end_at before i) ⊎ (IsEndAt t i (end_at after i) × (end_at after i ≢ Background))

-- where the entry is Background, the step does not lead out of the cell
abbrev pub StaysWithin : Chart → List End → ℕ → Type 0
StaysWithin t ends i = end_at ends i ≡ Background → leads_within (own_grid t) i (step_of t i) ≡ true
