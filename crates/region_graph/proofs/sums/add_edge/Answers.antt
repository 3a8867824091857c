use Rattle.std.proofs.Common.{inl, refl, ◌≡◌, ◌-◌, List, [], ◌∷◌, ◌++◌, length, set, sym, ap, ◌∙◌, arith}
use Rattle.std.specs.Vec.{vec_len}
use Rattle.std.proofs.lemmas.List.{set-get_or, get_or_read}
use Rattle.agglo_model.specs.PairOrder.{added}
use Rattle.agglo_model.specs.RegionGraph.{GraphEdge, contact_in}
use Rattle.region_graph.specs.contracts.graph.Edge.{the_view}
use Rattle.region_graph.specs.Lists.{TakesIn, order_of, with_contact}
use Rattle.region_graph.proofs.Gaining.{takes_in, appends}
use Rattle.region_graph.proofs.EdgeSums.{taken-contacts, gained_count}
use Rattle.region_graph.proofs.sums.add_edge.Goals as goal
use Rattle.region_graph.proofs.sums.add_edge.Goals.{in-Some+else-order, in_default}

-- the list after the last took the edge in
abbrev list_after : goal.After-edges-then-order-1 → List GraphEdge
list_after c = set c.args.edges.now.items (vec_len c.args.edges.now - 1)
    (the_view (record { a = c.last.inside.a; b = c.last.inside.b; contact = c.add-last-inside.result }))

took : (c : goal.After-edges-then-order-1) → TakesIn order_of with_contact c.args.edge c.args.edges.now.items (list_after c)
took c =
    let last = c.in-Some.last.now in
    let n = vec_len c.args.edges.now in
    let same : order_of last ≡ order_of c.args.edge = sym c.order.ensures.value ∙ c.if-order.true ∙ c.order-order.ensures.value in
    let contacts : c.add-last-inside.result ≡ added last.contact c.args.edge.contact =
    c.add-last-inside.ensures ∙ (λ i. added (c.last.view_is i).contact (c.edge.view_is i).contact) in
    takes_in order_of with_contact c.args.edge c.args.edges.now.items last _ n (omega arith) (c.in-Some.ensures.variant.0 refl)
    c.in-Some.ensures.value same (λ i. record (c.last.view_is i) { contact = contacts i })

pub returns-then-order-clause-gains : goal.returns-then-order-clause-gains
returns-then-order-clause-gains c = inl (took c)

pub returns-then-order-clause-contacts : goal.returns-then-order-clause-contacts
unfolding took takes_in
returns-then-order-clause-contacts c =
    taken-contacts c.args.edge c.args.edges.now.items (list_after c) (took c) c.order.ensures.fits.b_fits c.order-order.ensures.fits.b_fits

pub returns-then-order-clause-count : goal.returns-then-order-clause-count
returns-then-order-clause-count c = gained_count c.args.edge c.args.edges.now.items (list_after c) (inl (took c))

-- the list after the edge was appended
pushed : (c : goal.In_ok-push) → c.push.new.self.items ≡ c.args.edges.now.items ++ c.args.edge ∷ []
pushed c =
    let xs = c.args.edges.now.items in
    let n = vec_len c.args.edges.now in
    elim c.match-last_mut.branch [
      | in-Some+else-order w ↦
          c.in_ok-push.ensures.items ∙ ap (λ v. v.items ++ c.args.edge ∷ []) w.edges-is
          ∙ ap (λ ys. ys ++ c.args.edge ∷ []) (ap (set xs (n - 1)) w.in-Some.ensures.value ∙ set-get_or xs (n - 1) w.in-Some.last.now)
      | in_default w ↦ c.in_ok-push.ensures.items ∙ ap (λ v. v.items ++ c.args.edge ∷ []) w.edges-is
    ]

pub returns-clause-gains : goal.returns-clause-gains
returns-clause-gains c =
    let xs = c.args.edges.now.items in
    let n = vec_len c.args.edges.now in
    let none : vec_len c.args.edges.now ≡ length xs = omega arith in
    elim c.match-last_mut.branch [
      | in-Some+else-order w ↦
          appends order_of with_contact c.args.edge xs c.push.new.self.items n (omega arith)
          (λ last some at_last same. w.if-order.false (w.order.ensures.value
          ∙ ap order_of (sym (get_or_read xs (n - 1) last (omega arith) at_last w.in-Some.last.now ∙ sym w.in-Some.ensures.value))
          ∙ same ∙ sym c.order-order.ensures.value)) (pushed c)
      | in_default w ↦ appends order_of with_contact c.args.edge xs c.push.new.self.items n (omega arith)
          (λ last some at_last same. omega (arith, w.in_default.ensures.item.3)) (pushed c)
    ]

pub returns-clause-contacts : goal.returns-clause-contacts
returns-clause-contacts c past x y = ap (λ es. contact_in past es x y) (pushed c)
