use Rattle.std.proofs.Common.{◌<◌, ℕ}
use Rattle.agglo_model.specs.Basins.{label_of}
use Rattle.steepest_ascent.specs.Progress.{AreRightSoFar, IsLabelOf}
use Rattle.steepest_ascent.proofs.ascent.Ascent.settle_all.Given as goal

abbrev pub invariant-loop-v : goal.invariant-loop-v
invariant-loop-v l = record {
  right : AreRightSoFar l.self.grid l.self.low l.labels;
  passed : (u : ℕ) → u < l.v → IsLabelOf l.self.grid l.self.low u (label_of l.labels u);
}
