use Rattle.std.proofs.Common.{length, ◌-◌, ◌≤◌, take}
use Rattle.std.specs.List.{flat_map}
use Rattle.agglo_model.specs.MergeTree.{merge_bytes}
use Rattle.seg_io.specs.Piecing.{Puts}
use Rattle.merge_tree.proofs.tree_file.put_merges.Given as goal

-- the merges so far were put
abbrev pub invariant-loop-done : goal.invariant-loop-done
invariant-loop-done g l = (l.done ≤ length l.merges)
    × Puts (flat_map merge_bytes (take l.done l.merges)) l.initial.piecer l.piecer (g.D.Desk.state l.initial.desk) (g.D.Desk.state l.desk)

abbrev pub decreases-loop-done : goal.decreases-loop-done
decreases-loop-done g l = length l.merges - l.done
