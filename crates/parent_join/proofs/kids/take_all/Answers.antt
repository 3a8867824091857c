use Rattle.std.proofs.Common.{◌≡◌, ◌+◌, [], ◌++◌, length, sym, ap, ◌∙◌, subst, arith}
use Rattle.std.specs.Prelude.{map}
use Rattle.agglo_model.specs.Cutting.{child, child_count}
use Rattle.agglo_model.specs.Joining.{kept_faces}
use Rattle.parent_join.specs.Kids.{with_faces_in}
use Rattle.parent_join.proofs.KidLists.{AreGatheredBut, none_but, gathered_next, gathered_all, one_left, few_children}
use Rattle.parent_join.proofs.kids.take_all.Goals as goal

pub loop-kid-init : goal.loop-kid-init
loop-kid-init c =
    subst (λ rs. AreGatheredBut c.args.site.now.cutting c.args.m 0 c.args.kids.now c.args.kids.now rs c.new-edges.result.items)
    (sym c.new-regions.ensures.items)
    (subst (AreGatheredBut c.args.site.now.cutting c.args.m 0 c.args.kids.now c.args.kids.now []) (sym c.new-edges.ensures.items)
    (none_but c.args.site.now.cutting c.args.m c.args.kids.now))

pub child-requires-clause-child : goal.child-requires-clause-child
child-requires-clause-child c =
    let more = one_left c.args.site.now.cutting c.args.m c.loop-kid.i c.args.kids.now c.loop-kid.kids c.take_first.new.self
    c.loop-kid.regions.items c.loop-kid.edges.items c.in-Some.kid c.loop-kid.invariant c.in-Some.ensures in
    let count = ap (λ d. child_count d c.args.m) c.cutting-cutting.ensures.value in
    omega (arith, more, count, c.requires.one_each)

pub overflow_add-i : goal.overflow_add-i
overflow_add-i c =
    let more = one_left c.args.site.now.cutting c.args.m c.loop-kid.i c.args.kids.now c.loop-kid.kids c.take_first.new.self
    c.loop-kid.regions.items c.loop-kid.edges.items c.in-Some.kid c.loop-kid.invariant c.in-Some.ensures in
    let few = few_children c.args.site.now.cutting c.args.m in
    omega (arith, more, few, c.requires.one_each)

pub loop-kid-smaller : goal.loop-kid-smaller
loop-kid-smaller c = omega (arith, ap length c.in-Some.ensures)

pub loop-kid-preserved : goal.loop-kid-preserved
loop-kid-preserved c =
    let t = c.args.site.now.cutting in
    let m = c.args.m in
    let kid = c.in-Some.kid in
    let faces = c.faces_kept-faces.result in
    let faces_are : faces ≡ kept_faces t m (child t m c.loop-kid.i) =
    c.faces_kept-faces.ensures
    ∙ (λ i. kept_faces (c.cutting-cutting.ensures.value i) m ((c.child.ensures.value ∙ ap (λ d. child d m c.loop-kid.i) c.cutting-cutting.ensures.value) i)) in
    let is = gathered_next t m c.loop-kid.i c.args.kids.now c.loop-kid.kids c.take_first.new.self c.loop-kid.regions.items c.loop-kid.edges.items
    kid faces c.loop-kid.invariant c.in-Some.ensures c.into_parts-parts.ensures.graph faces_are in
    let regions = c.in_ok-add_regions.ensures
    ∙ ap (λ rs. c.loop-kid.regions.items ++ map (with_faces_in faces) rs) (c.deref.ensures.value ∙ c.into_parts-parts.ensures.regions) in
    let edges = c.in_ok-extend_from_slice.ensures.items
    ∙ ap (λ es. c.loop-kid.edges.items ++ es) (c.deref-in-Some.ensures.value ∙ c.into_parts-parts.ensures.edges) in
    subst (λ rs. AreGatheredBut t m (c.loop-kid.i + 1) c.args.kids.now c.take_first.new.self rs c.extend_from_slice.new.self.items) (sym regions)
    (subst (AreGatheredBut t m (c.loop-kid.i + 1) c.args.kids.now c.take_first.new.self _) (sym edges) is)

pub returns-clause-regions : goal.returns-clause-regions
returns-clause-regions c = (gathered_all c.args.site.now.cutting c.args.m c.loop-kid.i c.args.kids.now c.loop-kid.kids
    c.loop-kid.regions.items c.loop-kid.edges.items c.loop-kid.invariant c.in_default.ensures.0).regions_are

pub returns-clause-edges : goal.returns-clause-edges
returns-clause-edges c = (gathered_all c.args.site.now.cutting c.args.m c.loop-kid.i c.args.kids.now c.loop-kid.kids
    c.loop-kid.regions.items c.loop-kid.edges.items c.loop-kid.invariant c.in_default.ensures.0).edges_are

pub returns-clause-graphs : goal.returns-clause-graphs
returns-clause-graphs c = (gathered_all c.args.site.now.cutting c.args.m c.loop-kid.i c.args.kids.now c.loop-kid.kids
    c.loop-kid.regions.items c.loop-kid.edges.items c.loop-kid.invariant c.in_default.ensures.0).graphs
