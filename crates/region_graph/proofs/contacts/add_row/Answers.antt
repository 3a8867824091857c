use Rattle.std.proofs.Common.{◌≡◌, inl, inr, ◌+◌, ◌*◌, ◌-◌, ◌<◌, [], ◌∷◌, ◌++◌, min, max, get_or, sym, ap, ◌∙◌, subst, arith}
use Rattle.agglo_model.specs.Axes.{coordinate, stride}
use Rattle.agglo_model.specs.Basins.{label_of}
use Rattle.agglo_model.specs.Grid.{affinity}
use Rattle.agglo_model.proofs.Places.{stride_le}
use Rattle.region_graph.specs.Lists.{AreOrdered, SameContacts, count_of}
use Rattle.region_graph.proofs.ContactRows.{HasEdgeOn, summed_none, summed_edge, summed_alike}
use Rattle.region_graph.proofs.contacts.add_row.Goals as goal
use Rattle.region_graph.proofs.contacts.add_row.Goals.{then-higher-lower+then-higher-ne0+then-lower-ne0+in_ok-place, else-higher-lower, else-higher-lower-via-then-higher-lower+then-higher-ne0+else-lower-ne0, else-higher-lower-via-then-higher-lower+else-higher-ne0, else-higher-lower-via-else-higher-lower}

pub loop-v-init : goal.loop-v-init
loop-v-init c = summed_none c.args.site.now.grid c.args.site.now.labels c.args.axis c.args.from c.args.edges.now.items

pub overflow_sub-lower : goal.overflow_sub-lower
overflow_sub-lower c =
    let a = c.args.site.now.grid.axes in
    let inner : 0 < coordinate a c.loop-v.v c.args.axis = c.requires.inner c.loop-v.v c.loop-v.auto.v c.loop-v-test.true in
    let low = stride_le a c.loop-v.v c.args.axis inner in
    let same : c.stride-stride.result ≡ stride a c.args.axis =
    c.stride-stride.ensures.value ∙ ap (λ b. stride b c.args.axis) (c.dims.ensures.value ∙ ap (λ g. g.axes) c.vol-2.ensures.value) in
    omega (arith, low, same)

pub loop-v-preserved : goal.loop-v-preserved
loop-v-preserved c =
    let g = c.args.site.now.grid in
    let labels = c.args.site.now.labels in
    let axis = c.args.axis in
    let from = c.args.from in
    let v = c.loop-v.v in
    let has : HasEdgeOn g v axis = record {
      axis_is = c.requires.axis;
      voxel = omega arith;
      inner = c.requires.inner v c.loop-v.auto.v c.loop-v-test.true;
    } in
    let list_is = c.list-labels.ensures.value ∙ c.labels.ensures.labels in
    let stride_is : c.stride-stride.result ≡ stride g.axes axis =
    c.stride-stride.ensures.value ∙ ap (λ b. stride b axis) (c.dims.ensures.value ∙ ap (λ h. h.axes) c.vol-2.ensures.value) in
    let higher = get_or c.list-labels.result.now v 0 in
    let lower = get_or c.list-labels.result.now (v - c.stride-stride.result) 0 in
    let higher_is : higher ≡ label_of labels v = ap (λ ls. get_or ls v 0) list_is in
    let lower_is : lower ≡ label_of labels (v - stride g.axes axis) = λ i. get_or (list_is i) (v - stride_is i) 0 in
    let byte_is : get_or c.bytes-bytes.result.now (3 * v + axis) 0 ≡ affinity g (3 * v + axis) =
    ap (λ bs. get_or bs (3 * v + axis) 0) (c.bytes-bytes.ensures.value ∙ ap (λ h. h.bytes) c.vol.ensures.value) in
    let before = c.args.edges.now.items in
    let now = c.loop-v.edges.items in
    elim c.if-higher-lower.branch [
      | then-higher-lower+then-higher-ne0+then-lower-ne0+in_ok-place w ↦
          let after = sym (ap (λ es. es.items) w.edges-is) in
          summed_edge g labels axis from v before now c.if-higher-lower.edges.items lower higher has c.loop-v.auto.v c.loop-v.invariant
          lower_is higher_is w.if-higher-lower.true w.if-higher-ne0.true w.if-lower-ne0.true w.one-edge.result
          (w.one-edge.ensures ∙ ap (λ byte. record { a = min lower higher; b = max lower higher; contact = record { sum = byte; count = 1; tie = 3 * v + axis } }) byte_is)
          (subst (λ es. AreOrdered now → w.one-edge.result.a < w.one-edge.result.b → AreOrdered es) after w.in_ok-place.ensures.ordered)
          (subst (SameContacts (now ++ w.one-edge.result ∷ [])) after w.in_ok-place.ensures.contacts)
          (ap count_of (sym after) ∙ w.in_ok-place.ensures.count)
      | else-higher-lower w ↦
          summed_alike g labels axis from v before now c.if-higher-lower.edges.items lower higher has c.loop-v.auto.v c.loop-v.invariant
          lower_is higher_is
          (elim w.else-higher-lower.branch [
            | else-higher-lower-via-then-higher-lower+then-higher-ne0+else-lower-ne0 u ↦ inr (inr u.if-lower-ne0.false)
            | else-higher-lower-via-then-higher-lower+else-higher-ne0 u ↦ inr (inl u.if-higher-ne0.false)
            | else-higher-lower-via-else-higher-lower u ↦ inl u.if-higher-lower.false
          ])
          (ap (λ es. es.items) w.edges-is)
    ]
