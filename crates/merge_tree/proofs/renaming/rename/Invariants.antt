use Rattle.std.proofs.Common.{◌≡◌, ◌++◌, map, take, drop}
use Rattle.merge_tree.specs.Renaming.{final_label}
use Rattle.merge_tree.proofs.renaming.rename.Given as goal

abbrev pub invariant-loop-voxel : goal.invariant-loop-voxel
invariant-loop-voxel l = record {
  axes : l.labels.axes ≡ l.initial.labels.axes;
  so_far : l.labels.labels ≡ map (final_label l.names) (take l.voxel l.initial.labels.labels) ++ drop l.voxel l.initial.labels.labels;
}
