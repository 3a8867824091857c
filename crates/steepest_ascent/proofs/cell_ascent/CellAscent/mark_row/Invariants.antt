use Rattle.std.proofs.Common.{◌<◌, ℕ}
use Rattle.agglo_model.specs.Axes.{voxel_at}
use Rattle.steepest_ascent.specs.Charts.{GainsEnds, StaysWithin, own_grid}
use Rattle.steepest_ascent.proofs.cell_ascent.CellAscent.mark_row.Given as goal

abbrev pub invariant-loop-x : goal.invariant-loop-x
invariant-loop-x l = record {
  gains : GainsEnds l.self l.fn.ends l.ends;
  within : (k : ℕ) → k < l.x → StaysWithin l.self l.ends (voxel_at (own_grid l.self) k l.y l.z);
}
