use Rattle.std.proofs.Common.{◌≡◌, ◌<◌}
use Rattle.agglo_model.specs.Axes.{voxel_count}
use Rattle.agglo_model.proofs.Ascent.{standing}
use Rattle.steepest_ascent.specs.Progress.{IsLabelOf}
use Rattle.face_pointers.proofs.exits.Exits.follow.Given as goal

abbrev pub invariant-loop-next : goal.invariant-loop-next
invariant-loop-next l = record {
  same : l.self ≡ l.fn.self;
  voxel : l.here < voxel_count l.fn.self.grid.axes;
  right : IsLabelOf l.fn.self.grid l.fn.self.low l.here l.label;
}

abbrev pub decreases-loop-next : goal.decreases-loop-next
decreases-loop-next l = standing 255 l.fn.self.grid l.fn.self.low l.here
