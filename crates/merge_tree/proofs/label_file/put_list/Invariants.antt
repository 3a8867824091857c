use Rattle.std.proofs.Common.{length, ◌-◌, ◌≤◌, take}
use Rattle.std.specs.List.{flat_map}
use Rattle.agglo_model.specs.LabelFile.{u32_bytes}
use Rattle.seg_io.specs.Piecing.{Puts}
use Rattle.merge_tree.proofs.label_file.put_list.Given as goal

-- the labels so far were put
abbrev pub invariant-loop-done : goal.invariant-loop-done
invariant-loop-done g l = (l.done ≤ length l.labels)
    × Puts (flat_map u32_bytes (take l.done l.labels)) l.initial.piecer l.piecer (g.D.Desk.state l.initial.desk) (g.D.Desk.state l.desk)

abbrev pub decreases-loop-done : goal.decreases-loop-done
decreases-loop-done g l = length l.labels - l.done
