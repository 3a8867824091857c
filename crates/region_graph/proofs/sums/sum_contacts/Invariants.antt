use Rattle.std.proofs.Common.{map, take}
use Rattle.region_graph.specs.Lists.{AreSummed}
use Rattle.region_graph.specs.Sorting.{joined}
use Rattle.region_graph.proofs.sums.sum_contacts.Given as goal

abbrev pub invariant-loop-bucket : goal.invariant-loop-bucket
invariant-loop-bucket l = AreSummed (joined (take l.bucket-index (map (λ b. b.items) l.bucket-items))) l.summed.items
