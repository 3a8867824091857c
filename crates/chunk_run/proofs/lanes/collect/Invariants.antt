use Rattle.chunk_run.specs.Lanes.{ArePartsDone}
use Rattle.chunk_run.proofs.lanes.collect.Given as goal

-- the parts so far are in the list
abbrev pub invariant-loop-part : goal.invariant-loop-part
invariant-loop-part l = ArePartsDone l.yielded l.done.items
