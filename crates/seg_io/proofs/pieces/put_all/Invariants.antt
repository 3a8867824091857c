use Rattle.std.proofs.Common.{length, ◌-◌}
use Rattle.seg_io.proofs.Writing.{HasWritten}
use Rattle.seg_io.proofs.pieces.put_all.Given as goal

abbrev pub invariant-loop-written : goal.invariant-loop-written
invariant-loop-written g l =
    HasWritten l.written l.port l.bytes (g.D.Desk.state l.initial.desk) (g.D.Desk.state l.desk)

abbrev pub decreases-loop-written : goal.decreases-loop-written
decreases-loop-written g l = length l.bytes - l.written
