use Rattle.std.proofs.Common.{◌≡◌}
use Rattle.face_pointers.proofs.exits.Exits.follow_all.Given as goal

abbrev pub invariant-loop-ways : goal.invariant-loop-ways
invariant-loop-ways g l = l.self ≡ l.fn.self
