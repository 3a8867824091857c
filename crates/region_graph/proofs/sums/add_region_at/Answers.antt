use Rattle.std.proofs.Common.{◌≡◌, ◌∙◌, ◌<◌, List, get_or, length, set, sym, ap, arith, bit_or}
use Rattle.std.proofs.lemmas.List.{get_or_read}
use Rattle.agglo_model.specs.RegionGraph.{Region}
use Rattle.region_graph.specs.contracts.graph.Region.{the_view}
use Rattle.region_graph.specs.Lists.{with_faces_of}
use Rattle.region_graph.proofs.TakenAt.{taken_at-regions}
use Rattle.region_graph.proofs.sums.add_region_at.Goals as goal

pub returns-then-index-region-clause-same : goal.returns-then-index-region-clause-same
returns-then-index-region-clause-same c =
    let rs : List Region = c.args.regions.now.items in
    let r : Region = c.args.region in
    let i = c.args.place in
    let l : Region = c.index_mut.result.now in
    let there = c.behind-regions-then-index-region in
    let w : Region = the_view (record { name = there.inside.name; faces = bit_or there.inside.faces c.region.inside.faces }) in
    let below : i < length rs = omega arith in
    let at_l : l ≡ get_or rs i l = c.index_mut.ensures.value in
    let read : c.index.result.now ≡ get_or rs i l = get_or_read rs i c.index.result.now below c.index.ensures l in
    let taken : w ≡ with_faces_of (get_or rs i l) r =
    (λ k. record (there.view_is k) { faces = bit_or (there.view_is k).faces (c.region.view_is k).faces })
    ∙ ap (λ z. with_faces_of z r) at_l in
    let name : (get_or rs i l).name ≡ r.name =
    ap (λ z. z.name) (sym read) ∙ (λ k. (sym c.behind-regions.view_is k).name) ∙ c.if-index-region.true ∙ (λ k. (c.region.view_is k).name) in
    taken_at-regions rs (set rs i w) i r l below name (ap (set rs i) taken)
