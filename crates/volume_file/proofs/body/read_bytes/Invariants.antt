use Rattle.std.proofs.Common.{◌-◌, ◌≤◌, length, vec_len}
use Rattle.volume_file.proofs.BodyPieces.{HasRead}
use Rattle.volume_file.proofs.body.read_bytes.Given as goal

abbrev pub invariant-loop-bytes : goal.invariant-loop-bytes
invariant-loop-bytes g l =
    HasRead l.bytes.items (g.D.Desk.state l.initial.desk) (g.D.Desk.state l.desk) × (length l.bytes.items ≤ l.length)

abbrev pub decreases-loop-bytes : goal.decreases-loop-bytes
decreases-loop-bytes g l = l.length - vec_len l.bytes
