use Rattle.std.proofs.Common.{◌≡◌, ◌+◌, ap, ◌∙◌, sym, subst, arith}
use Rattle.agglo_model.specs.Cutting.{child, child_count}
use Rattle.parent_join.specs.Kids.{FitsInto}
use Rattle.parent_join.proofs.KidLists.{few_children}
use Rattle.segment_checks.proofs.KidPushes.{AreFirstKids, kids_more}
use Rattle.segment_checks.proofs.tests.graphs.passed_to.Goals as goal

pub push-requires : goal.push-requires
push-requires c =
    let few = few_children c.args.site.now.cutting c.args.m in
    let count = c.child_count-i-end.ensures.value ∙ ap (λ t. child_count t c.args.m) c.cutting-cutting.ensures.value in
    omega (arith, c.loop-i.invariant.number, c.loop-i-test.true, few, count)

pub loop-i-preserved : goal.loop-i-preserved
loop-i-preserved c =
    let s = c.args.site.now in
    let m = c.args.m in
    let i = c.loop-i.i in
    let graph = c.in_ok-graph.graph in
    let node_is : c.child-node.result ≡ child s.cutting m i =
    c.child-node.ensures.value ∙ ap (λ t. child t m i) c.cutting-cutting.ensures.value in
    subst (AreFirstKids s.grid s.cutting m (i + 1)) (sym c.push.ensures)
    (kids_more s.grid s.cutting m i c.loop-i.kids (record { node = c.child-node.result; graph = graph }) c.loop-i.invariant
    (subst (λ n. FitsInto s.grid s.cutting n graph) node_is c.in_ok-graph.ensures))
