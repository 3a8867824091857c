use Rattle.parent_join.specs.Kids.{graphs_of}
use Rattle.chunk_run.specs.Turns.{AreTaken}
use Rattle.chunk_run.proofs.handing.take_kids.Given as goal

-- the children so far were taken
abbrev pub invariant-loop-i : goal.invariant-loop-i
invariant-loop-i l = AreTaken l.cutting l.m l.i l.initial.waiting l.waiting (graphs_of l.kids.items)
