use Rattle.std.proofs.Common.{length, ◌-◌}
use Rattle.seg_io.proofs.Filling.{HasFilled}
use Rattle.seg_io.proofs.pieces.fill.Given as goal

abbrev pub invariant-loop-filled : goal.invariant-loop-filled
invariant-loop-filled g l = HasFilled l.filled l.into (g.D.Desk.state l.initial.desk) (g.D.Desk.state l.desk)

abbrev pub decreases-loop-filled : goal.decreases-loop-filled
decreases-loop-filled g l = length l.initial.into - l.filled
