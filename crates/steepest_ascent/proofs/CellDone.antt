-- The ends of all voxels of a cell, once each has its own.
use Rattle.std.proofs.Common.{◌≡◌, ℕ, ◌<◌, List, length, sym, subst}
use Rattle.agglo_model.specs.Axes.{voxel_count}
use Rattle.agglo_model.specs.Boxes.{box_grid, box_index}
use Rattle.agglo_model.specs.Grid.{Grid}
use Rattle.agglo_model.proofs.BoxPlaces.{box_index-lt, box_voxel-index}
use Rattle.seg_base.specs.declared.cell.Cell.{Cell}
use Rattle.steepest_ascent.specs.CellEnds.{IsClimb, IsEndOf, end_at}
use Rattle.steepest_ascent.specs.Charts.{Chart, IsEndAt}
use Rattle.steepest_ascent.specs.declared.ends.End.{End}

-- the same for a chart of this volume, threshold and cell
chart_is : (t : Chart) (g : Grid) (low : ℕ) (cell : Cell) → t.grid ≡ g → t.low ≡ low → t.cell ≡ cell
    → t ≡ record { grid = g; low = low; cell = cell; steps = t.steps }
chart_is t g low cell grid_is low_is cell_is =
    λ i. record { grid = grid_is i; low = low_is i; cell = cell_is i; steps = t.steps }

pub all_ends : (t : Chart) (g : Grid) (low : ℕ) (cell : Cell) (ends : List End) → t.grid ≡ g → t.low ≡ low
    → t.cell ≡ cell → length ends ≡ voxel_count (box_grid cell.lo cell.hi)
    → ((i : ℕ) → i < length ends → IsEndAt t i (end_at ends i))
    → IsClimb g low (record { cell = cell; ends = ends })
all_ends t g low cell ends grid_is low_is cell_is len right = record {
  one_each = len;
  each = λ v inside.
      let i : ℕ = box_index g.axes cell.lo cell.hi v in
      let lt : i < length ends = subst (λ n. i < n) (sym len) (box_index-lt g.axes cell.lo cell.hi v inside) in
      subst (λ u. IsEndOf g low cell u (end_at ends i)) (box_voxel-index g.axes cell.lo cell.hi v inside) (here i lt);
}
  where
    here : (i : ℕ) → i < length ends
        → IsEndAt (record { grid = g; low = low; cell = cell; steps = t.steps }) i (end_at ends i)
    here i lt = subst (λ (u : Chart). IsEndAt u i (end_at ends i)) (chart_is t g low cell grid_is low_is cell_is) (right i lt)
