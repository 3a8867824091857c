use Rattle.index_lists.proofs.Within.{first_below}
use Rattle.index_lists.proofs.Pushing.{pushed_links}
use Rattle.index_lists.proofs.lists.Lists.push_front.Goals as goal

pub join-ends-requires-clause-after : goal.join-ends-requires-clause-after
join-ends-requires-clause-after c =
    first_below c.self.inside.nodes.items c.self.inside.ends.items c.args.self.now c.args.list _ _ c.self.view_is c.self.invariant c.requires.list c.index-ends.ensures c.deref_mut.ensures.value

pub invariant_of-self : goal.invariant_of-self
invariant_of-self c =
    (pushed_links c.self.inside.nodes.items c.self.inside.ends.items c.args.self.now c.args.list c.args.item c.self.inside.nodes.len _ _ _ _ _ _ _
    c.self.view_is c.self.invariant c.requires.list c.requires.item c.requires.free c.index-ends.ensures c.deref_mut.ensures.value
    c.deref_mut.ensures.len c.join-ends.ensures c.deref_mut-2.ensures.value c.deref_mut-2.ensures.len c.join.ensures).0

pub returns : goal.returns
returns c =
    (pushed_links c.self.inside.nodes.items c.self.inside.ends.items c.args.self.now c.args.list c.args.item c.self.inside.nodes.len _ _ _ _ _ _ _
    c.self.view_is c.self.invariant c.requires.list c.requires.item c.requires.free c.index-ends.ensures c.deref_mut.ensures.value
    c.deref_mut.ensures.len c.join-ends.ensures c.deref_mut-2.ensures.value c.deref_mut-2.ensures.len c.join.ensures).1
