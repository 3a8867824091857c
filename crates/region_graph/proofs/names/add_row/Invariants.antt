use Rattle.region_graph.specs.Boxes.{GainsNames, in_run}
use Rattle.region_graph.proofs.names.add_row.Given as goal

abbrev pub invariant-loop-v : goal.invariant-loop-v
invariant-loop-v l =
    GainsNames l.fn.labels.axes l.fn.labels.labels (in_run l.from l.v) l.faces l.initial.regions.items l.regions.items
