use Rattle.mutual_merge.specs.Linked.{graph_of}
use Rattle.mutual_merge.specs.Indexed.{IsIndexed}
use Rattle.mutual_merge.specs.Slots.{HaveMergedInto}
use Rattle.mutual_merge.proofs.chains.merge_chains.Given as goal

abbrev pub invariant-loop-slot : goal.invariant-loop-slot
invariant-loop-slot l = IsIndexed l.slots
    × HaveMergedInto l.threshold l.frozen (graph_of l.fn.graph.regions.items l.fn.graph.links.items) l.merging.merges.items
    l.slots.regions.items l.slots.closed.items l.slots.links.items
