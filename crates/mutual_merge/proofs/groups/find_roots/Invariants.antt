use Rattle.mutual_merge.specs.Groups.{AreParents}
use Rattle.mutual_merge.proofs.groups.find_roots.Given as goal

abbrev pub invariant-loop-place : goal.invariant-loop-place
invariant-loop-place l = AreParents l.count l.parents.items
