use Rattle.std.proofs.Common.{◌<◌, ℕ}
use Rattle.agglo_model.specs.Axes.{voxel_at}
use Rattle.steepest_ascent.specs.CellEnds.{end_at}
use Rattle.steepest_ascent.specs.Charts.{AreEndsSoFar, IsEndAt, StaysWithin, own_grid}
use Rattle.steepest_ascent.proofs.cell_ascent.CellAscent.settle_all.Given as goal

abbrev pub invariant-loop-z : goal.invariant-loop-z
invariant-loop-z l = record {
  right : AreEndsSoFar l.self l.ends;
  within : (k : ℕ) → StaysWithin l.self l.ends k;
  done : (k : ℕ) → k < voxel_at (own_grid l.self) 0 0 l.z → IsEndAt l.self k (end_at l.ends k);
}

abbrev pub invariant-loop-y : goal.invariant-loop-y
invariant-loop-y l = record {
  right : AreEndsSoFar l.self l.ends;
  within : (k : ℕ) → StaysWithin l.self l.ends k;
  done : (k : ℕ) → k < voxel_at (own_grid l.self) 0 l.y l.z → IsEndAt l.self k (end_at l.ends k);
}
