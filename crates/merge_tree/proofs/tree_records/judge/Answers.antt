use Rattle.std.proofs.Common.{◌≡◌, true, ◌∙◌}
use Rattle.agglo_model.specs.TreeFile.{has_names}
use Rattle.agglo_model.proofs.RecordFlaws.{no_flaw}
use Rattle.merge_tree.proofs.Records.{table_says, order_says, reaches_is, same_merge, tells_names, tells_contact, tells_order, tells_below}
use Rattle.merge_tree.proofs.tree_records.judge.Goals as goal

pub returns-then-not-can_merge : goal.returns-then-not-can_merge
returns-then-not-can_merge c =
    tells_names c.args.head.now.dims c.args.head.now.threshold c.args.earlier.now c.args.raw c.args.i c.requires.number
    (table_says c.args.head.now.dims c.args.earlier.now c.args.absorbed.now c.args.raw _ _ c.requires.marked c.can_merge.ensures c.if-not-can_merge.true)

pub returns-in_default : goal.returns-in_default
returns-in_default c =
    let names : has_names c.args.head.now.dims c.args.earlier.now c.args.raw ≡ true =
    table_says c.args.head.now.dims c.args.earlier.now c.args.absorbed.now c.args.raw _ _ c.requires.marked c.can_merge.ensures c.if-not-can_merge.false in
    tells_contact c.args.head.now.dims c.args.head.now.threshold c.args.earlier.now c.args.raw c.args.i c.requires.number names c.in_default.ensures

pub returns-then-not-is_next : goal.returns-then-not-is_next
returns-then-not-is_next c =
    let names : has_names c.args.head.now.dims c.args.earlier.now c.args.raw ≡ true =
    table_says c.args.head.now.dims c.args.earlier.now c.args.absorbed.now c.args.raw _ _ c.requires.marked c.can_merge.ensures c.if-not-can_merge.false in
    let same = same_merge c.args.raw _ _ c.raw.view_is c.in-Some.ensures.1 in
    tells_order c.args.head.now.dims c.args.head.now.threshold c.args.earlier.now c.args.raw c.args.i c.requires.number names c.in-Some.ensures.0
    (order_says c.args.earlier.now _ c.args.raw _ _ same c.is_next.ensures c.if-not-is_next.true)

pub returns-then-not-reaches : goal.returns-then-not-reaches
returns-then-not-reaches c =
    let names : has_names c.args.head.now.dims c.args.earlier.now c.args.raw ≡ true =
    table_says c.args.head.now.dims c.args.earlier.now c.args.absorbed.now c.args.raw _ _ c.requires.marked c.can_merge.ensures c.if-not-can_merge.false in
    let same = same_merge c.args.raw _ _ c.raw.view_is c.in-Some.ensures.1 in
    tells_below c.args.head.now.dims c.args.head.now.threshold c.args.earlier.now c.args.raw c.args.i c.requires.number names c.in-Some.ensures.0
    (order_says c.args.earlier.now _ c.args.raw _ _ same c.is_next.ensures c.if-not-is_next.false)
    (reaches_is c.args.head.now.threshold c.in-Some.contact c.args.raw.contact _ c.in-Some.ensures.1 c.reaches.ensures.0 c.reaches.ensures.1 ∙ c.if-not-reaches.true)

pub returns : goal.returns
returns c =
    let names : has_names c.args.head.now.dims c.args.earlier.now c.args.raw ≡ true =
    table_says c.args.head.now.dims c.args.earlier.now c.args.absorbed.now c.args.raw _ _ c.requires.marked c.can_merge.ensures c.if-not-can_merge.false in
    let same = same_merge c.args.raw _ _ c.raw.view_is c.in-Some.ensures.1 in (
      no_flaw c.args.head.now.dims c.args.head.now.threshold c.args.earlier.now c.args.raw record {
        names = names;
        numbers = c.in-Some.ensures.0;
        next = order_says c.args.earlier.now _ c.args.raw _ _ same c.is_next.ensures c.if-not-is_next.false;
        above = reaches_is c.args.head.now.threshold c.in-Some.contact c.args.raw.contact _ c.in-Some.ensures.1 c.reaches.ensures.0 c.reaches.ensures.1 ∙ c.if-not-reaches.false;
      },
      same,
    )
