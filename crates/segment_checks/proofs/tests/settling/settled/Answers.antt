use Rattle.segment_checks.proofs.SampleGraphs.{IsGraph-by_test}
use Rattle.segment_checks.proofs.tests.settling.settled.Goals as goal

pub of-graph-requires-clause-graph : goal.of-graph-requires-clause-graph
of-graph-requires-clause-graph c =
    (IsGraph-by_test c.args.regions.now c.args.edges.now c.in_ok-regions_of.field-0.items c.in_ok-edges_of.field-0.items
    c.in_ok-regions_of.ensures c.in_ok-edges_of.ensures c.requires).0

pub of-graph-requires-clause-within : goal.of-graph-requires-clause-within
of-graph-requires-clause-within c =
    (IsGraph-by_test c.args.regions.now c.args.edges.now c.in_ok-regions_of.field-0.items c.in_ok-edges_of.field-0.items
    c.in_ok-regions_of.ensures c.in_ok-edges_of.ensures c.requires).1
