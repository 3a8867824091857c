use Rattle.std.proofs.Common.{take}
use Rattle.region_graph.proofs.RegionSums.{AreTogether}
use Rattle.region_graph.proofs.sums.join_regions.Given as goal

abbrev pub invariant-loop-region : goal.invariant-loop-region
invariant-loop-region l = AreTogether (take l.region-index l.region-items) l.joined.items
