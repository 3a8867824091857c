use Rattle.std.proofs.Common.{◌≡◌, ◌<◌, ℕ, List}
use Rattle.agglo_model.specs.Axes.{voxel_count}
use Rattle.agglo_model.specs.Basins.{label_of, AreBasins}
use Rattle.agglo_model.proofs.Ascent.{standing}
use Rattle.face_pointers.proofs.exits.Exits.label.Given as goal

abbrev pub invariant-loop-name : goal.invariant-loop-name
invariant-loop-name l = record {
  voxel : l.here < voxel_count l.self.grid.axes;
  same_label : (basins : List ℕ) → AreBasins l.self.grid l.self.low basins
      → label_of basins l.here ≡ label_of basins l.v;
}

abbrev pub decreases-loop-name : goal.decreases-loop-name
decreases-loop-name l = standing 255 l.self.grid l.self.low l.here
