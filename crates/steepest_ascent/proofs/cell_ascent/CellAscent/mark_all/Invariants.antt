use Rattle.std.proofs.Common.{◌<◌, ℕ}
use Rattle.agglo_model.specs.Axes.{voxel_at}
use Rattle.steepest_ascent.specs.Charts.{AreEndsSoFar, StaysWithin, own_grid}
use Rattle.steepest_ascent.proofs.cell_ascent.CellAscent.mark_all.Given as goal

abbrev pub invariant-loop-z : goal.invariant-loop-z
invariant-loop-z l = record {
  right : AreEndsSoFar l.self l.ends;
  within : (i : ℕ) → i < voxel_at (own_grid l.self) 0 0 l.z → StaysWithin l.self l.ends i;
}

abbrev pub invariant-loop-y : goal.invariant-loop-y
invariant-loop-y l = record {
  right : AreEndsSoFar l.self l.ends;
  within : (i : ℕ) → i < voxel_at (own_grid l.self) 0 l.y l.z → StaysWithin l.self l.ends i;
}
