use Rattle.std.proofs.Common.{sym, subst}
use Rattle.agglo_model.specs.RegionGraph.{IsCellGraph}
use Rattle.agglo_model.proofs.WaitingCells.{leaf_below}
use Rattle.region_graph.proofs.CellGraphs.{IsGathered, gathered, gathered-graph, gathered-cell}
use Rattle.region_graph.proofs.leaf.of_leaf.Goals as goal
use Rattle.region_graph.proofs.leaf.of_leaf.Goals.{In_ok-edges}

pub names_inside-requires : goal.names_inside-requires
names_inside-requires c = leaf_below c.args.site.now.cutting c.args.m c.requires

pub contacts_inside-requires : goal.contacts_inside-requires
contacts_inside-requires c = leaf_below c.args.site.now.cutting c.args.m c.requires

-- what the lists of regions and edges hold
all_gathered : (c : In_ok-edges) → IsGathered c.args.site.now.grid c.args.site.now.cutting c.args.m c.args.site.now.labels
    c.in_ok-regions.regions.items c.in_ok-edges.edges.items
all_gathered c =
    let s = c.args.site.now in
    let names = c.in_ok-names_inside.ensures in
    let regions = c.in_ok-regions.ensures in
    let edges = c.in_ok-edges.ensures in
    gathered s.grid s.cutting c.args.m s.labels c.in_ok-names_inside.field-0.items c.in_ok-regions.regions.items
    c.in_ok-contacts_inside.field-0.items c.in_ok-edges.edges.items
    (record { names = names.names; faces = names.faces; contacts = c.in_ok-contacts_inside.ensures.contacts })
    regions.same edges.contacts
    (record { regions_ascend = regions.ascend; named = regions.named names.named; edges_ascend = edges.ascend; ordered = edges.ordered; touching = edges.touching })

pub of-requires-clause-graph : goal.of-requires-clause-graph
of-requires-clause-graph c =
    let s = c.args.site.now in
    gathered-graph s.grid s.cutting c.args.m s.labels c.in_ok-regions.regions.items c.in_ok-edges.edges.items
    c.in_ok-contacts_inside.ensures.site.same_axes (all_gathered (goal.at.of-requires-clause-graph c).In_ok-edges)

pub returns : goal.returns
returns c =
    let s = c.args.site.now in
    subst (IsCellGraph s.grid s.cutting c.args.m s.labels) (sym c.of.ensures)
    (gathered-cell s.grid s.cutting c.args.m s.labels c.in_ok-regions.regions.items c.in_ok-edges.edges.items
    c.in_ok-contacts_inside.ensures.site.same_axes (all_gathered (goal.at.returns c).In_ok-edges))
