use Rattle.std.proofs.Common.{◌<◌, ℕ}
use Rattle.agglo_model.specs.Axes.{voxel_at}
use Rattle.steepest_ascent.specs.CellEnds.{end_at}
use Rattle.steepest_ascent.specs.Charts.{AreEndsSoFar, GainsEnds, IsEndAt, StaysWithin, own_grid}
use Rattle.steepest_ascent.proofs.cell_ascent.CellAscent.settle_row.Given as goal

abbrev pub invariant-loop-x : goal.invariant-loop-x
invariant-loop-x l = record {
  right : AreEndsSoFar l.self l.ends;
  within : (k : ℕ) → StaysWithin l.self l.ends k;
  gains : GainsEnds l.self l.fn.ends l.ends;
  done : (k : ℕ) → k < l.x
      → IsEndAt l.self (voxel_at (own_grid l.self) k l.y l.z) (end_at l.ends (voxel_at (own_grid l.self) k l.y l.z));
}
