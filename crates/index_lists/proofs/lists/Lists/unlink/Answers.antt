use Rattle.std.proofs.Common.{◌<◌, subst, sym, refl}
use Rattle.index_lists.proofs.Within.{item_below, next_below, previous_below}
use Rattle.index_lists.proofs.Unlinking.{unlinked_links}
use Rattle.index_lists.proofs.lists.Lists.unlink.Goals as goal

pub index-node-requires : goal.index-node-requires
index-node-requires c =
    subst (λ n. c.args.item < n) (sym c.self.inside.nodes.ok.0)
    (item_below c.self.inside.nodes.items c.self.inside.ends.items c.args.self.now c.args.list c.args.item c.self.view_is c.self.invariant c.requires)

pub join-requires-clause-before : goal.join-requires-clause-before
join-requires-clause-before c =
    previous_below c.self.inside.nodes.items c.self.inside.ends.items c.args.self.now c.args.list c.args.item _ _ c.self.view_is c.self.invariant
    c.requires c.index-node.ensures c.deref_mut.ensures.value

pub join-requires-clause-after : goal.join-requires-clause-after
join-requires-clause-after c =
    next_below c.self.inside.nodes.items c.self.inside.ends.items c.args.self.now c.args.list c.args.item _ _ c.self.view_is c.self.invariant
    c.requires c.index-node.ensures c.deref_mut.ensures.value

pub index_mut-requires-2 : goal.index_mut-requires-2
index_mut-requires-2 c =
    subst (λ n. c.args.item < n) (sym c.self.inside.nodes.ok.0)
    (item_below c.self.inside.nodes.items c.self.inside.ends.items c.args.self.now c.args.list c.args.item c.self.view_is c.self.invariant c.requires)

pub invariant_of-self : goal.invariant_of-self
invariant_of-self c =
    (unlinked_links c.self.inside.nodes.items c.self.inside.ends.items c.args.self.now c.args.list c.args.item c.self.inside.nodes.len _ _ _ _ _ _
    c.self.view_is c.self.invariant c.requires c.index-node.ensures c.index-ends.ensures c.deref_mut.ensures.value c.deref_mut.ensures.len
    c.join.ensures refl).0

pub returns : goal.returns
returns c =
    (unlinked_links c.self.inside.nodes.items c.self.inside.ends.items c.args.self.now c.args.list c.args.item c.self.inside.nodes.len _ _ _ _ _ _
    c.self.view_is c.self.invariant c.requires c.index-node.ensures c.index-ends.ensures c.deref_mut.ensures.value c.deref_mut.ensures.len
    c.join.ensures refl).1
