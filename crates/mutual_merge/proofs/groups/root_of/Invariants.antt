use Rattle.std.proofs.Common.{◌<◌, length}
use Rattle.mutual_merge.specs.Groups.{AreParents}
use Rattle.mutual_merge.proofs.groups.root_of.Given as goal

abbrev pub invariant-loop-parents : goal.invariant-loop-parents
invariant-loop-parents l = record {
  parents : AreParents (length l.fn.parents) l.parents;
  inside : l.here < length l.fn.parents;
}

abbrev pub decreases-loop-parents : goal.decreases-loop-parents
decreases-loop-parents l = l.here
