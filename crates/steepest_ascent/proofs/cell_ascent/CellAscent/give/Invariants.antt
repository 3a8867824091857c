use Rattle.std.proofs.Common.{◌≡◌, ◌≢◌, ◌<◌, ◌⊎◌, sum_by}
use Rattle.agglo_model.specs.Axes.{voxel_count}
use Rattle.steepest_ascent.specs.CellEnds.{end_at}
use Rattle.steepest_ascent.specs.Charts.{GainsEnds, IsEndAt, own_grid}
use Rattle.steepest_ascent.specs.declared.ends.End.TheVariants.{Background}
use Rattle.steepest_ascent.proofs.CellFilling.{unknown}
use Rattle.steepest_ascent.proofs.cell_ascent.CellAscent.give.Given as goal

abbrev pub invariant-loop-self : goal.invariant-loop-self
invariant-loop-self l = record {
  voxel : l.here < voxel_count (own_grid l.self);
  right : IsEndAt l.self l.here l.end;
  given : (l.here ≡ l.i) ⊎ (end_at l.ends l.i ≢ Background);
  gains : GainsEnds l.self l.fn.ends l.ends;
}

abbrev pub decreases-loop-self : goal.decreases-loop-self
decreases-loop-self l = sum_by unknown l.ends
