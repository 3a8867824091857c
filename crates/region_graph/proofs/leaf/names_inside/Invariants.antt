use Rattle.region_graph.proofs.FaceNames.{AreFacesNamed}
use Rattle.region_graph.proofs.leaf.names_inside.Given as goal

abbrev pub invariant-loop-axis : goal.invariant-loop-axis
invariant-loop-axis l = AreFacesNamed l.site.cutting l.m l.site.labels l.axis l.regions.items
