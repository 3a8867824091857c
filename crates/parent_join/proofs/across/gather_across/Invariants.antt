use Rattle.parent_join.proofs.AxesAcross.{AreAxesCrossed}
use Rattle.parent_join.proofs.across.gather_across.Given as goal

abbrev pub invariant-loop-axis : goal.invariant-loop-axis
invariant-loop-axis l = AreAxesCrossed l.site.grid l.site.labels l.cell.lo l.cell.hi l.first.hi l.axis l.edges.items
