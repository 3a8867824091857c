use Rattle.std.proofs.Common.{◌-◌, ◌≤◌, length}
use Rattle.face_pointers.specs.Pieces.{AreLabelsFrom}
use Rattle.face_pointers.proofs.exits.Exits.fill.Given as goal

abbrev pub invariant-loop-done : goal.invariant-loop-done
invariant-loop-done l = record {
  within : l.done ≤ length l.part;
  right : AreLabelsFrom l.self l.first l.part l.done;
}

abbrev pub decreases-loop-done : goal.decreases-loop-done
decreases-loop-done l = length l.initial.part - l.done
