use Rattle.std.proofs.Common.{[], ◌∙◌, sym, ap, subst}
use Rattle.std.proofs.lemmas.List.{take_all}
use Rattle.agglo_model.specs.RegionGraph.{GraphEdge, HasRegion}
use Rattle.mutual_merge.proofs.LinkedEdges.{AreLinked-from_edges}
use Rattle.mutual_merge.proofs.links.link_all.Goals as goal

pub place_by-requires-clause-there : goal.place_by-requires-clause-there
place_by-requires-clause-there c =
    let e : GraphEdge = c.edge-item.result in
    subst (HasRegion (record { regions = c.args.regions.now; edges = [] })) (ap (λ f. f.a) (sym c.edge.view_is))
    (c.requires.graph.from_region e (c.loop-edge.edge-index, c.loop-edge-test.true, sym c.edge-item.is))

pub place_by-requires-in-loop-edge-clause-there : goal.place_by-requires-in-loop-edge-clause-there
place_by-requires-in-loop-edge-clause-there c =
    let e : GraphEdge = c.edge-item.result in
    subst (HasRegion (record { regions = c.args.regions.now; edges = [] })) (ap (λ f. f.b) (sym c.edge.view_is))
    (c.requires.graph.to_region e (c.loop-edge.edge-index, c.loop-edge-test.true, sym c.edge-item.is))

pub returns-clause-linked : goal.returns-clause-linked
returns-clause-linked c =
    AreLinked-from_edges c.args.regions.now c.args.edges.now c.loop-edge.links.items c.requires.graph c.requires.within
    c.see_fit.ensures c.loop-edge.invariant.inside
    (c.loop-edge.invariant.same_edges ∙ take_all c.loop-edge.edge-index c.args.edges.now c.loop-edge-test.false)
