use Rattle.std.proofs.Common.{◌≡◌, ◌+◌, ◌++◌, ◌∷◌, [], take, sym, ap, ◌∙◌, subst, arith}
use Rattle.std.proofs.lemmas.List.{take_all}
use Rattle.std.proofs.lemmas.List.Sums.{sum_by_more, sum_by_more_le}
use Rattle.agglo_model.specs.RegionGraph.{GraphEdge}
use Rattle.region_graph.specs.Lists.{AreSummed, count_of}
use Rattle.region_graph.proofs.BucketSums.{summed_after}
use Rattle.region_graph.proofs.sums.add_edges.Goals as goal

pub add_edge-requires : goal.add_edge-requires
add_edge-requires c =
    let xs = c.args.edges.now in
    let e : GraphEdge = c.edge-item.result in
    let more = sum_by_more_le (λ (f : GraphEdge). f.contact.count) xs c.loop-edge.edge-index e c.loop-edge-test.true in
    let here = ap (λ (f : GraphEdge). f.contact.count) c.edge-item.is in
    omega (arith, more, here, c.loop-edge.invariant.count, c.requires)

pub loop-edge-preserved : goal.loop-edge-preserved
loop-edge-preserved c =
    let xs = c.args.edges.now in
    let i = c.loop-edge.edge-index in
    let e : GraphEdge = c.edge-item.result in
    let more = sum_by_more (λ (f : GraphEdge). f.contact.count) xs i e c.loop-edge-test.true in
    let here = ap (λ (f : GraphEdge). f.contact.count) c.edge-item.is in
    let so_many = c.loop-edge.invariant.count in
    record {
      count = omega (arith, more, here, so_many, c.in_ok-add_edge.ensures.count);
      summed = λ done so_far up. summed_after done xs i c.loop-edge.summed.items c.add_edge.new.edges.items e c.loop-edge-test.true c.edge-item.is
          up (c.loop-edge.invariant.summed done so_far up) c.in_ok-add_edge.ensures.fits c.in_ok-add_edge.ensures.gains;
    }

pub returns : goal.returns
returns c = λ done so_far up.
    subst (λ xs. AreSummed (done ++ xs) c.loop-edge.summed.items) (take_all c.loop-edge.edge-index c.args.edges.now c.loop-edge-test.false)
    (c.loop-edge.invariant.summed done so_far up)
