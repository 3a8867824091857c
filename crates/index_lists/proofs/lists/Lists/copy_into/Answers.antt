use Rattle.std.proofs.Common.{ℕ, suc, ◌≡◌, ◌<◌, ◌-◌, ◌+◌, [], List, length, sym, ap, ◌∙◌, subst, arith}
use Rattle.std.proofs.lemmas.List.{get_or_read}
use Rattle.index_lists.specs.LinkedLists.{list_at}
use Rattle.index_lists.specs.Links.{node_at, walk}
use Rattle.index_lists.specs.declared.nodes.Node.{Node}
use Rattle.index_lists.specs.declared.nodes.TheConstants.{NONE}
use Rattle.index_lists.proofs.Copying.{IsCopiedTo, copied_all, copied_more, copied_none, at_border, is_in_list, without_fuel}
use Rattle.index_lists.proofs.Within.{item_below}
use Rattle.index_lists.proofs.lists.Lists.copy_into.Goals as goal
use Rattle.index_lists.proofs.lists.Lists.copy_into.Goals.{Else-item}

none_taken : (n : ℕ) → n ≡ n - 0
none_taken n = omega arith

pub loop-init : goal.loop-init
loop-init c =
    let items : List ℕ = c.args.items.now.items in
    let all : length c.self.inside.nodes.items ≡ c.len-end.result - 0 =
    sym c.self.inside.nodes.ok.0 ∙ sym c.len-end.ensures ∙ none_taken c.len-end.result in
    subst (λ n. IsCopiedTo c.self.inside.nodes.items (list_at c.args.self.now c.args.list) items items n c.index.result.now.first) all
    (copied_none c.self.inside.nodes.items c.self.inside.ends.items c.args.self.now c.args.list c.index.result.now items
    c.self.view_is c.self.invariant c.requires c.index.ensures)

-- the fuel that is left after this turn
fuel_left : (c : Else-item) → c.len-end.result - c.loop.counter ≡ suc (c.len-end.result - (c.loop.counter + 1))
fuel_left c = omega (arith, c.loop-test.true)

item_there : (c : Else-item) → c.loop.item < length c.self.inside.nodes.items
item_there c =
    item_below c.self.inside.nodes.items c.self.inside.ends.items c.args.self.now c.args.list c.loop.item c.self.view_is c.self.invariant
    (is_in_list c.self.inside.nodes.items (list_at c.args.self.now c.args.list) c.args.items.now.items c.loop.items.items
    (c.len-end.result - c.loop.counter) (c.len-end.result - (c.loop.counter + 1)) c.loop.item c.loop.invariant (fuel_left c) c.if-item.false)

pub index-requires-in-loop : goal.index-requires-in-loop
index-requires-in-loop c =
    subst (λ n. c.loop.item < n) (sym c.self.inside.nodes.ok.0) (item_there (goal.at.index-requires-in-loop c).Else-item)

pub loop-preserved : goal.loop-preserved
loop-preserved c =
    let at = (goal.at.loop-preserved c).Else-item in
    let nodes : List Node = c.self.inside.nodes.items in
    let xs = list_at c.args.self.now c.args.list in
    let left = c.len-end.result - (c.loop.counter + 1) in
    let read : c.index-in-loop.result.now ≡ node_at nodes c.loop.item =
    get_or_read nodes c.loop.item c.index-in-loop.result.now (item_there at) c.index-in-loop.ensures (record { next = NONE; previous = NONE }) in
    subst (λ now. IsCopiedTo nodes xs c.args.items.now.items now left c.index-in-loop.result.now.next) (sym c.in_ok-push.ensures.items)
    (copied_more nodes xs c.args.items.now.items c.loop.items.items (c.len-end.result - c.loop.counter) left c.loop.item c.index-in-loop.result.now.next
    c.loop.invariant (fuel_left at) c.if-item.false (ap (λ (n : Node). n.next) read))

pub returns-after-loop-clause-copied : goal.returns-after-loop-clause-copied
returns-after-loop-clause-copied c =
    let none : c.len-end.result - c.loop.counter ≡ 0 = omega (arith, c.loop-test.false) in
    copied_all c.self.inside.nodes.items (list_at c.args.self.now c.args.list) c.args.items.now.items c.loop.items.items
    (c.len-end.result - c.loop.counter) c.loop.item c.loop.invariant
    (subst (λ n. walk c.self.inside.nodes.items n c.loop.item ≡ []) (sym none) (without_fuel c.self.inside.nodes.items c.loop.item))

pub returns-then-item-clause-copied : goal.returns-then-item-clause-copied
returns-then-item-clause-copied c =
    copied_all c.self.inside.nodes.items (list_at c.args.self.now c.args.list) c.args.items.now.items c.loop.items.items
    (c.len-end.result - c.loop.counter) c.loop.item c.loop.invariant
    (at_border c.self.inside.nodes.items (c.len-end.result - c.loop.counter) c.loop.item c.if-item.true)
