use Rattle.std.proofs.Common.{◌≡◌, ◌<◌, ◌≤◌, ◌+◌, ◌∙◌, None, List, ap, sym, subst, arith, length}
use Rattle.std.proofs.lemmas.Result.{err_from_is_err_and}
use Rattle.agglo_model.specs.Greedy.{Merge}
use Rattle.agglo_model.specs.TreeFile.{merges_in, record_flaw}
use Rattle.agglo_model.proofs.SoundTrees.{as_many}
use Rattle.merge_tree.specs.TreeReading.{Tells}
use Rattle.merge_tree.proofs.Judged.{nth_record, none_judged, name_within, judged_more, judged_fails, judged_number, judged_all}
use Rattle.merge_tree.proofs.tree_records.lawful_merges.Goals as goal

pub loop-i-init : goal.loop-i-init
loop-i-init c =
    none_judged c.args.head.now.dims c.args.head.now.threshold (merges_in c.args.head.now.merges c.args.body.now)
    c.in_ok-merges.merges.items c.in_ok-absorbed.absorbed.items (c.voxels.result + 1)
    c.in_ok-merges.ensures.items (ap (λ n. n + 1) c.voxels.ensures.value)
    (c.in_ok-absorbed.ensures.items_if_clones_equal (λ y k. k)) (omega (arith, c.in_ok-absorbed.ensures.len))

pub judge-requires-clause-number : goal.judge-requires-clause-number
judge-requires-clause-number c =
    let most : c.loop-i.i ≤ length (merges_in c.args.head.now.merges c.args.body.now) =
    omega (arith, as_many c.args.head.now.merges c.args.body.now) in
    judged_number c.args.head.now.dims c.args.head.now.threshold (merges_in c.args.head.now.merges c.args.body.now) c.loop-i.merges.items c.loop-i.i
    c.loop-i.absorbed.items most c.loop-i.invariant ∙ ap length (sym c.deref-in-loop-i.ensures.value)

pub returns-in_err-merge : goal.returns-in_err-merge
returns-in_err-merge c =
    let p = err_from_is_err_and c.from_residual-in_err-merge.result c.from_residual-in_err-merge.ensures.1 in
    let below : c.loop-i.i < length (merges_in c.args.head.now.merges c.args.body.now) =
    omega (arith, as_many c.args.head.now.merges c.args.body.now) in
    let at = c.record_at-raw.ensures
    ∙ nth_record c.args.head.now.merges c.args.body.now c.loop-i.i _ c.record_at-raw.result c.loop-i-test.true (omega arith) in
    let tells : Tells c.in_err-merge.field-0.0 (record_flaw c.args.head.now.dims c.args.head.now.threshold c.loop-i.merges.items c.record_at-raw.result) =
    subst (λ (l : List Merge). Tells c.in_err-merge.field-0.0 (record_flaw c.args.head.now.dims c.args.head.now.threshold l c.record_at-raw.result))
    c.deref-in-loop-i.ensures.value c.in_err-merge.ensures in
    rw (p.1, p.2) (λ other. judged_fails c.args.head.now.dims c.args.head.now.threshold (merges_in c.args.head.now.merges c.args.body.now)
    c.loop-i.merges.items c.loop-i.i c.loop-i.absorbed.items c.record_at-raw.result _ below at tells c.loop-i.invariant)

pub index_mut-requires : goal.index_mut-requires
index_mut-requires c =
    let sound = subst (λ (l : List Merge). record_flaw c.args.head.now.dims c.args.head.now.threshold l c.record_at-raw.result ≡ None)
    c.deref-in-loop-i.ensures.value c.in_ok-merge.ensures.0 in
    let within = name_within c.args.head.now.dims c.args.head.now.threshold (merges_in c.args.head.now.merges c.args.body.now)
    c.loop-i.merges.items c.loop-i.i c.raw.inside.absorbed c.loop-i.absorbed.items c.record_at-raw.result c.loop-i.invariant sound (ap (λ m. m.absorbed) c.raw.view_is) in
    omega (arith, within)

pub loop-i-preserved : goal.loop-i-preserved
loop-i-preserved c =
    let below : c.loop-i.i < length (merges_in c.args.head.now.merges c.args.body.now) =
    omega (arith, as_many c.args.head.now.merges c.args.body.now) in
    let at = c.record_at-raw.ensures
    ∙ nth_record c.args.head.now.merges c.args.body.now c.loop-i.i _ c.record_at-raw.result c.loop-i-test.true (omega arith) in
    let sound = subst (λ (l : List Merge). record_flaw c.args.head.now.dims c.args.head.now.threshold l c.record_at-raw.result ≡ None)
    c.deref-in-loop-i.ensures.value c.in_ok-merge.ensures.0 in
    judged_more c.args.head.now.dims c.args.head.now.threshold (merges_in c.args.head.now.merges c.args.body.now)
    c.loop-i.merges.items c.push.new.self.items c.loop-i.i c.raw.inside.absorbed c.loop-i.absorbed.items c.record_at-raw.result c.in_ok-merge.merge
    below at (ap (λ m. m.absorbed) c.raw.view_is) c.in_ok-merge.ensures.1 c.in_ok-push.ensures.items sound c.loop-i.invariant

pub returns : goal.returns
returns c =
    judged_all c.args.head.now.dims c.args.head.now.threshold (merges_in c.args.head.now.merges c.args.body.now) c.loop-i.merges.items c.loop-i.i
    c.loop-i.absorbed.items (omega (arith, as_many c.args.head.now.merges c.args.body.now)) c.loop-i.invariant
