use Rattle.std.proofs.Common.{take}
use Rattle.mutual_merge.specs.Left.{KeepsReaching}
use Rattle.mutual_merge.proofs.residue.keep_reaching.Given as goal

abbrev pub invariant-loop-link : goal.invariant-loop-link
invariant-loop-link l = KeepsReaching l.threshold (take l.link-index l.links) l.initial.kept l.kept
