use Rattle.std.proofs.Common.{◌≡◌}
use Rattle.face_pointers.proofs.exits.Exits.follow_each.Given as goal

abbrev pub invariant-loop-v : goal.invariant-loop-v
invariant-loop-v l = l.self ≡ l.fn.self
