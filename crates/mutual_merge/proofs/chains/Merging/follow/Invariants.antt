use Rattle.agglo_model.specs.RegionGraph.{RegionGraph}
use Rattle.mutual_merge.specs.Indexed.{IsIndexed}
use Rattle.mutual_merge.specs.Slots.{HaveMergedInto}
use Rattle.mutual_merge.proofs.chains.Merging.follow.Given as goal

abbrev pub invariant-loop : goal.invariant-loop
invariant-loop l = IsIndexed l.slots
    × ((graph : RegionGraph)
    → HaveMergedInto l.threshold l.frozen graph l.fn.self.merges.items l.fn.slots.regions.items l.fn.slots.closed.items l.fn.slots.links.items
    → HaveMergedInto l.threshold l.frozen graph l.self.merges.items l.slots.regions.items l.slots.closed.items l.slots.links.items)
