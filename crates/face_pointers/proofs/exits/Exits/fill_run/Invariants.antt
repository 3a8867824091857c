use Rattle.std.proofs.Common.{◌+◌}
use Rattle.face_pointers.specs.Pieces.{AreLabelsFrom}
use Rattle.face_pointers.proofs.exits.Exits.fill_run.Given as goal

abbrev pub invariant-loop-k : goal.invariant-loop-k
invariant-loop-k l = AreLabelsFrom l.self l.first l.part (l.done + l.k)
