use Rattle.std.proofs.Common.{◌<◌, sym, subst}
use Rattle.index_lists.proofs.Joining.{SetsNext, joined, next_at_border, next_at_item, previous_at_border, previous_at_item, set_next}
use Rattle.index_lists.proofs.nodes.join.Goals as goal
use Rattle.index_lists.proofs.nodes.join.Goals.{then-before-eq-NONE, else-before-eq-NONE}

pub returns-then-after-eq-NONE : goal.returns-then-after-eq-NONE
returns-then-after-eq-NONE c =
    let next : SetsNext c.args.before c.args.after c.args.nodes.now c.args.ends c.if-before-eq-NONE.nodes c.if-before-eq-NONE.joined =
    elim c.if-before-eq-NONE.branch [
      | then-before-eq-NONE w ↦
          set_next _ _ _ _ _ _ _ _ w.nodes-is w.joined-is
          (next_at_border c.args.before c.args.after c.args.nodes.now c.args.ends w.if-before-eq-NONE.true)
      | else-before-eq-NONE w ↦
          set_next _ _ _ _ _ _ _ _ w.nodes-is w.joined-is
          (next_at_item c.args.before c.args.after c.args.nodes.now c.args.ends _ w.if-before-eq-NONE.false (c.requires.before w.if-before-eq-NONE.false))
    ] in
    joined _ _ _ _ _ _ _ _ next
    (previous_at_border c.args.before c.args.after c.if-before-eq-NONE.nodes c.if-before-eq-NONE.joined c.if-after-eq-NONE.true)

pub returns-else-after-eq-NONE : goal.returns-else-after-eq-NONE
returns-else-after-eq-NONE c =
    let next : SetsNext c.args.before c.args.after c.args.nodes.now c.args.ends c.if-before-eq-NONE.nodes c.if-before-eq-NONE.joined =
    elim c.if-before-eq-NONE.branch [
      | then-before-eq-NONE w ↦
          set_next _ _ _ _ _ _ _ _ w.nodes-is w.joined-is
          (next_at_border c.args.before c.args.after c.args.nodes.now c.args.ends w.if-before-eq-NONE.true)
      | else-before-eq-NONE w ↦
          set_next _ _ _ _ _ _ _ _ w.nodes-is w.joined-is
          (next_at_item c.args.before c.args.after c.args.nodes.now c.args.ends _ w.if-before-eq-NONE.false (c.requires.before w.if-before-eq-NONE.false))
    ] in
    joined _ _ _ _ _ _ _ _ next
    (previous_at_item c.args.before c.args.after c.if-before-eq-NONE.nodes c.if-before-eq-NONE.joined _ c.if-after-eq-NONE.false
    (subst (λ n. c.args.after < n) (sym next.as_many) (c.requires.after c.if-after-eq-NONE.false)))
