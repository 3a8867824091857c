use Rattle.std.proofs.Common.{◌≡◌}
use Rattle.chunk_run.proofs.node_work.kids_of.Given as goal

abbrev pub invariant-loop-residue : goal.invariant-loop-residue
invariant-loop-residue l = l.kids ≡ l.yielded
