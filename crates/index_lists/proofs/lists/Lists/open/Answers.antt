use Rattle.std.proofs.Common.{◌≡◌, ◌≤◌, length, arith, rules}
use Rattle.index_lists.proofs.Opening.{opened_links}
use Rattle.index_lists.proofs.lists.Lists.open.Goals as goal

pub invariant_of-result : goal.invariant_of-result
invariant_of-result c =
    let few : c.args.items ≤ 4294967295 = omega arith in
    let many : length c.loop-item.nodes.items ≡ c.args.items = omega arith in
    (opened_links c.loop-item.nodes.items c.in_ok-ends.ends.items c.args.lists c.args.items few many
    (λ x inside. c.loop-item.invariant.loose x (omega arith)) (c.in_ok-ends.ensures.items_if_clones_equal (λ y clone. search rules))).0

pub returns : goal.returns
returns c =
    let few : c.args.items ≤ 4294967295 = omega arith in
    let many : length c.loop-item.nodes.items ≡ c.args.items = omega arith in
    (opened_links c.loop-item.nodes.items c.in_ok-ends.ends.items c.args.lists c.args.items few many
    (λ x inside. c.loop-item.invariant.loose x (omega arith)) (c.in_ok-ends.ensures.items_if_clones_equal (λ y clone. search rules))).1
