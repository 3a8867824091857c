use Rattle.std.proofs.Common.{◌≡◌, ◌∙◌, List, Bool, sym, ap, subst, arith}
use Rattle.std.specs.Prelude.{sum_by}
use Rattle.agglo_model.specs.RegionGraph.{Region, GraphEdge, RegionGraph, IsGraph, IsWithinEdges}
use Rattle.agglo_model.specs.Settling.{IsLeftOf}
use Rattle.mutual_merge.specs.Linked.{graph_of}
use Rattle.mutual_merge.specs.Left.{AreLeft, edges_left, regions_left}
use Rattle.mutual_merge.specs.Trimmed.{kept_graph}
use Rattle.mutual_merge.proofs.LeftGraphs.{edges_left-fewer, IsGraph-left, IsWithinEdges-left, IsLeftOf-left}
use Rattle.mutual_merge.proofs.residue.leave.Goals as goal
use Rattle.mutual_merge.proofs.residue.leave.Goals.{In_ok-regions}

are_left : (c : In_ok-regions) → AreLeft c.args.threshold.now c.args.frozen c.args.settled.regions.items c.args.settled.links.items c.in_ok-kept.kept.items
are_left c =
    subst (λ rs. AreLeft c.args.threshold.now c.args.frozen rs c.args.settled.links.items c.in_ok-kept.kept.items) c.deref.ensures.value
    (subst (λ ls. AreLeft c.args.threshold.now c.args.frozen c.deref.result.now ls c.in_ok-kept.kept.items) c.deref-2.ensures.value
    c.in_ok-kept.ensures)

abbrev graph_made : List Region → List GraphEdge → RegionGraph
graph_made regions edges = record { regions = regions; edges = edges }

same_graph : (c : In_ok-regions) → kept_graph c.args.settled.regions.items c.args.settled.links.items c.in_ok-kept.kept.items
    ≡ graph_made c.in_ok-regions.regions.items c.in_ok-edges.edges.items
same_graph c =
    let kept : List Bool = c.in_ok-kept.kept.items in
    let regions : regions_left c.args.settled.regions.items kept ≡ c.in_ok-regions.regions.items =
    (λ i. regions_left (sym c.deref-6.ensures.value i) (sym c.deref-7.ensures.value i)) ∙ sym c.in_ok-regions.ensures in
    let edges : edges_left c.args.settled.regions.items c.args.settled.links.items kept ≡ c.in_ok-edges.edges.items =
    (λ i. edges_left (sym c.deref-3.ensures.value i) (sym c.deref-4.ensures.value i) (sym c.deref-5.ensures.value i)) ∙ sym c.in_ok-edges.ensures in
    λ i. record { regions = regions i; edges = edges i }

pub of-requires-clause-graph : goal.of-requires-clause-graph
of-requires-clause-graph c =
    subst IsGraph (same_graph c)
    (IsGraph-left c.args.settled.regions.items c.args.settled.links.items c.in_ok-kept.kept.items c.requires)

pub of-requires-clause-within : goal.of-requires-clause-within
of-requires-clause-within c =
    subst IsWithinEdges (same_graph c)
    (IsWithinEdges-left c.args.settled.regions.items c.args.settled.links.items c.in_ok-kept.kept.items c.requires)

pub returns-clause-left : goal.returns-clause-left
returns-clause-left c =
    let made = (goal.at.returns-clause-left c).In_ok-regions in
    subst (IsLeftOf c.args.threshold.now c.args.frozen (graph_of c.args.settled.regions.items c.args.settled.links.items))
    (same_graph made ∙ sym c.of.ensures)
    (IsLeftOf-left c.args.settled.regions.items c.args.settled.links.items c.in_ok-kept.kept.items c.requires
    c.args.threshold.now c.args.frozen (are_left made))

pub returns-clause-fewer : goal.returns-clause-fewer
returns-clause-fewer c =
    let made = (goal.at.returns-clause-fewer c).In_ok-regions in
    let same = ap (λ g. sum_by (λ e. e.contact.count) g.edges) (same_graph made ∙ sym c.of.ensures) in
    let least = edges_left-fewer c.args.settled.regions.items c.args.settled.links.items c.in_ok-kept.kept.items in
    omega (arith, same, least)
