use Rattle.std.proofs.Common.{◌<◌, ◌≤◌, ap, sym, subst, arith}
use Rattle.agglo_model.specs.Cutting.{cells_at, child_count, node_count}
use Rattle.chunk_run.proofs.Families.{inner_has_children}
use Rattle.segment_checks.proofs.tests.graphs.graph_of.Goals as goal

pub new-site-requires-clause-connected : goal.new-site-requires-clause-connected
new-site-requires-clause-connected c =
    c.basins_are_connected.ensures c.in_ok-vol.vol 1 c.in_ok-labels.labels.labels c.in_ok-labels.ensures.basins

pub join-requires-clause-parent : goal.join-requires-clause-parent
join-requires-clause-parent c =
    let cutting = c.in-Ok-new.cutting in
    let m = c.args.case.now.node in
    let below : m < node_count cutting = omega (arith, c.if-case-nodes.false, c.nodes.ensures.value) in
    let past : cells_at cutting 0 ≤ m = omega (arith, c.if-case-leaves.false, c.leaves.ensures.value) in
    subst (λ t. 0 < child_count t m) (sym (ap (λ s. s.cutting) c.new-site.ensures))
    (inner_has_children cutting c.nodes.ensures.cutting m below past)
