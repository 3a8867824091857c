use Rattle.region_graph.proofs.ContactRows.{IsSummedTo}
use Rattle.region_graph.proofs.contacts.add_row.Given as goal

abbrev pub invariant-loop-v : goal.invariant-loop-v
invariant-loop-v l =
    IsSummedTo l.site.grid l.site.labels l.axis l.from l.v l.initial.edges.items l.edges.items
