use Rattle.std.proofs.Common.{◌≡◌, ◌<◌, ℕ, List}
use Rattle.agglo_model.specs.Axes.{voxel_count}
use Rattle.agglo_model.specs.Basins.{label_of, AreBasins}
use Rattle.agglo_model.proofs.Ascent.{standing}
use Rattle.steepest_ascent.proofs.ascent.Ascent.label.Given as goal

abbrev pub invariant-loop-v : goal.invariant-loop-v
invariant-loop-v l = record {
  voxel : l.here < voxel_count l.self.grid.axes;
  same_label : (basins : List ℕ) → AreBasins l.self.grid l.self.low basins
      → label_of basins l.here ≡ label_of basins l.v;
}

abbrev pub decreases-loop-v : goal.decreases-loop-v
decreases-loop-v l = standing 255 l.self.grid l.self.low l.here
