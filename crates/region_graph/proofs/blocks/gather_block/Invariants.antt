use Rattle.region_graph.proofs.AxisContacts.{AreAxesSummed}
use Rattle.region_graph.proofs.blocks.gather_block.Given as goal

abbrev pub invariant-loop-axis : goal.invariant-loop-axis
invariant-loop-axis l =
    AreAxesSummed l.site.grid l.site.labels l.outer.lo l.block.lo l.block.hi l.axis l.initial.edges.items l.edges.items
