use Rattle.std.proofs.Common.{refl, sym, subst, true≢false}
use Rattle.std.specs.Prelude.{IsTrue}
use Rattle.std.specs.BinaryHeap.{heap_items, heap_len}
use Rattle.mutual_merge.specs.Hubs.{IsTrueEntry}
use Rattle.mutual_merge.proofs.HubFirsts.{popped_left, top_is_first}
use Rattle.mutual_merge.proofs.hubs.Hub.first.Goals as goal

pub returns-then-is_true-clause-first : goal.returns-then-is_true-clause-first
returns-then-is_true-clause-first c =
    top_is_first (heap_items c.loop-top.self-inside.heap) c.args.links.now c.args.self.now.slot c.in-Some.top.now c.loop-top.invariant.tells
    (c.in-Some.ensures.greatest c.loop-top.invariant.ordered)
    (subst (IsTrueEntry c.in-Some.top.now c.args.links.now) c.loop-top.invariant.slot_is (c.is_true.ensures.0 c.if-is_true.true))

pub loop-top-preserved : goal.loop-top-preserved
loop-top-preserved c =
    let left =
    popped_left c.pop.result (heap_len c.loop-top.self-inside.heap) (heap_items c.loop-top.self-inside.heap) (heap_items c.pop.new.self)
    c.args.links.now c.args.self.now.slot c.in-Some.top.now (c.in-Some.ensures.variant.0 refl) c.in-Some.ensures.lookup
    c.pop.ensures.none c.pop.ensures.top c.pop.ensures.permutation c.pop.ensures.heap_order
    (λ true. subst (λ b. ¬ (IsTrue b)) (sym c.if-is_true.false) (λ h. true≢false (sym h))
    (c.is_true.ensures.1 (subst (IsTrueEntry c.in-Some.top.now c.args.links.now) (sym c.loop-top.invariant.slot_is) true)))
    c.loop-top.invariant.ordered c.loop-top.invariant.tells in
    record { ordered = left.ordered; slot_is = c.loop-top.invariant.slot_is; tells = left.tells }
