use Rattle.std.proofs.Common.{length, take, ◌-◌, ◌≤◌}
use Rattle.seg_io.specs.Piecing.{Puts}
use Rattle.seg_io.proofs.piecer.Piecer.put.Given as goal

abbrev pub invariant-loop-taken : goal.invariant-loop-taken
invariant-loop-taken g l = record {
  room : l.taken ≤ length l.bytes;
  so_far : Puts (take l.taken l.bytes) l.initial.self l.self (g.D.Desk.state l.initial.desk) (g.D.Desk.state l.desk);
}

abbrev pub decreases-loop-taken : goal.decreases-loop-taken
decreases-loop-taken g l = length l.bytes - l.taken
