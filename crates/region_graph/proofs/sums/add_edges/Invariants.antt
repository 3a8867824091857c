use Rattle.std.proofs.Common.{◌≡◌, ◌+◌, ◌++◌, List, take}
use Rattle.std.specs.List.Sorted.{IsNonDecreasingBy}
use Rattle.agglo_model.specs.RegionGraph.{GraphEdge}
use Rattle.region_graph.specs.Lists.{AreSummed, count_of, order_of}
use Rattle.region_graph.proofs.sums.add_edges.Given as goal

abbrev pub invariant-loop-edge : goal.invariant-loop-edge
invariant-loop-edge l = record {
  count : count_of l.summed.items ≡ count_of l.initial.summed.items + count_of (take l.edge-index l.edges);
  summed : (done : List GraphEdge) → AreSummed done l.initial.summed.items → IsNonDecreasingBy order_of (done ++ l.edges)
      → AreSummed (done ++ take l.edge-index l.edges) l.summed.items;
}
