use Rattle.mutual_merge.specs.Groups.{AreParents}
use Rattle.mutual_merge.proofs.groups.join_ends.Given as goal

abbrev pub invariant-loop-link : goal.invariant-loop-link
invariant-loop-link l = AreParents l.count l.parents.items
