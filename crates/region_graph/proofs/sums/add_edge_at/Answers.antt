use Rattle.std.proofs.Common.{◌≡◌, ◌∙◌, ◌^◌, ◌<◌, List, get_or, length, set, sym, ap, subst, arith}
use Rattle.std.proofs.lemmas.List.{get_or_read}
use Rattle.agglo_model.specs.PairOrder.{added}
use Rattle.agglo_model.specs.RegionGraph.{GraphEdge}
use Rattle.region_graph.specs.contracts.graph.Edge.{the_view}
use Rattle.region_graph.specs.Lists.{order_of, with_contact}
use Rattle.region_graph.proofs.EdgeSums.{same_names}
use Rattle.region_graph.proofs.TakenAt.{taken_at-contacts}
use Rattle.region_graph.proofs.sums.add_edge_at.Goals as goal

pub returns-then-order-clause-contacts : goal.returns-then-order-clause-contacts
returns-then-order-clause-contacts c =
    let es : List GraphEdge = c.args.edges.now.items in
    let e : GraphEdge = c.args.edge in
    let i = c.args.place in
    let l : GraphEdge = c.index_mut-there.result.now in
    let w : GraphEdge = the_view (record { a = c.there.inside.a; b = c.there.inside.b; contact = c.add-there-inside.result }) in
    let below : i < length es = omega arith in
    let at_l : l ≡ get_or es i l = c.index_mut-there.ensures.value in
    let read : c.index.result.now ≡ get_or es i l = get_or_read es i c.index.result.now below c.index.ensures l in
    let contact : c.add-there-inside.result ≡ added l.contact e.contact =
    c.add-there-inside.ensures ∙ (λ k. added (c.there.view_is k).contact (c.edge.view_is k).contact) in
    let taken : w ≡ with_contact (get_or es i l) e =
    (λ k. record (c.there.view_is k) { contact = contact k }) ∙ ap (λ z. with_contact z e) at_l in
    let same : order_of (get_or es i l) ≡ order_of e =
    ap order_of (sym read) ∙ sym c.order.ensures.value ∙ c.if-order.true ∙ c.order-order.ensures.value in
    let fits : (get_or es i l).b < 2 ^ 32 = subst (λ z. z.b < 2 ^ 32) read c.order.ensures.fits.b_fits in
    let names = same_names (get_or es i l).a (get_or es i l).b e.a e.b fits c.order-order.ensures.fits.b_fits same in
    taken_at-contacts es (set es i w) i e l below (ap (set es i) taken) names.0 names.1
