use Rattle.region_graph.proofs.BoxRows.{AreRowsNamed}
use Rattle.region_graph.proofs.names.add_names.Given as goal

abbrev pub invariant-loop-z : goal.invariant-loop-z
invariant-loop-z l =
    AreRowsNamed l.labels.axes l.labels.labels l.faces l.cell.lo l.cell.hi 0 l.z l.fn.regions.items l.regions.items

abbrev pub invariant-loop-y : goal.invariant-loop-y
invariant-loop-y l =
    AreRowsNamed l.labels.axes l.labels.labels l.faces l.cell.lo l.cell.hi l.y l.z l.fn.regions.items l.regions.items
