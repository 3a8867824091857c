use Rattle.std.proofs.Common.{◌≡◌, ◌++◌, List, length, take, drop, sym, ap, ◌∙◌, subst}
use Rattle.std.proofs.lemmas.List.{take_at}
use Rattle.agglo_model.specs.Axes.{voxel_count}
use Rattle.agglo_model.specs.Boxes.{box_grid}
use Rattle.agglo_model.specs.Grid.{Grid}
use Rattle.seg_base.specs.declared.cell.Cell.{Cell}
use Rattle.steepest_ascent.specs.CellEnds.{CellEnds, IsClimb}
use Rattle.steepest_ascent.specs.declared.ends.End.{End}
use Rattle.steepest_ascent.proofs.CellDone.{all_ends}
use Rattle.steepest_ascent.proofs.climbing.climb.Goals as goal

pub returns-clause-climb : goal.returns-clause-climb
returns-clause-climb c =
    let g : Grid = c.args.vol.now in
    let cell : Cell = c.args.cell.now in
    let ws : List End = c.settle_all.new.ends in
    let n = c.in_ok-ends.ends.len in
    let same : length ws ≡ n = c.settle_all.auto.ends ∙ c.deref_mut-2.ensures.len in
    let len : length ws ≡ voxel_count (box_grid cell.lo cell.hi) =
    same ∙ c.in_ok-ends.ensures.len ∙ c.voxels.ensures.value ∙ ap voxel_count c.grid-grid.ensures.value in
    let marked : List End = take n (c.mark_all.new.ends ++ drop (length c.mark_all.new.ends) c.in_ok-ends.ends.items) in
    let result_is = c.of-2.ensures
    ∙ ap (λ (l : List End). record_of cell l) (take_at ws (drop (length ws) marked) n same) in
    subst (λ (e : CellEnds). IsClimb g c.args.low e) (sym result_is)
    (all_ends c.in_ok-ascent.ascent g c.args.low cell ws c.in_ok-ascent.ensures.grid c.in_ok-ascent.ensures.low
    c.in_ok-ascent.ensures.cell len c.settle_all.ensures)
  where
    record_of : Cell → List End → CellEnds
    record_of cell l = record { cell = cell; ends = l }
