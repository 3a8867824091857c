use Rattle.std.proofs.Common.{◌≡◌, ◌<◌}
use Rattle.agglo_model.specs.Axes.{voxel_count}
use Rattle.agglo_model.specs.Basins.{label_of}
use Rattle.agglo_model.proofs.Ascent.{standing}
use Rattle.steepest_ascent.specs.Progress.{GainsRightLabels, IsLabelOf}
use Rattle.steepest_ascent.proofs.ascent.Ascent.give.Given as goal

abbrev pub invariant-loop-next : goal.invariant-loop-next
invariant-loop-next l = record {
  voxel : l.here < voxel_count l.self.grid.axes;
  right : IsLabelOf l.self.grid l.self.low l.here l.label;
  given : label_of l.labels l.v ≡ l.label;
  gains : GainsRightLabels l.self.grid l.self.low l.fn.labels l.labels;
}

abbrev pub decreases-loop-next : goal.decreases-loop-next
decreases-loop-next l = standing 255 l.self.grid l.self.low l.here
