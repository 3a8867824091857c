use Rattle.region_graph.proofs.BoxRows.{AreRowsSummed}
use Rattle.region_graph.proofs.contacts.gather.Given as goal

abbrev pub invariant-loop-z : goal.invariant-loop-z
invariant-loop-z l =
    AreRowsSummed l.site.grid l.site.labels l.axis l.cell.lo l.cell.hi 0 l.z l.fn.edges.items l.edges.items

abbrev pub invariant-loop-y : goal.invariant-loop-y
invariant-loop-y l =
    AreRowsSummed l.site.grid l.site.labels l.axis l.cell.lo l.cell.hi l.y l.z l.fn.edges.items l.edges.items
