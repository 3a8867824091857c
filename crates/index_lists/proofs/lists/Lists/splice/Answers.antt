use Rattle.index_lists.proofs.Within.{first_below, last_below}
use Rattle.index_lists.proofs.Splicing.{spliced_links, spliced_none}
use Rattle.index_lists.proofs.lists.Lists.splice.Goals as goal

pub returns-then-moved : goal.returns-then-moved
returns-then-moved c =
    spliced_none c.self.inside.nodes.items c.self.inside.ends.items c.args.self.now c.args.from c.args.to _ c.self.view_is c.self.invariant
    c.requires.from c.requires.apart c.index-moved.ensures c.if-moved.true

pub join-joined-requires-clause-before : goal.join-joined-requires-clause-before
join-joined-requires-clause-before c =
    last_below c.self.inside.nodes.items c.self.inside.ends.items c.args.self.now c.args.to _ _ c.self.view_is c.self.invariant
    c.requires.to c.index-ends.ensures c.deref_mut.ensures.value

pub join-joined-requires-clause-after : goal.join-joined-requires-clause-after
join-joined-requires-clause-after c =
    first_below c.self.inside.nodes.items c.self.inside.ends.items c.args.self.now c.args.from _ _ c.self.view_is c.self.invariant
    c.requires.from c.index-moved.ensures c.deref_mut.ensures.value

pub invariant_of-self : goal.invariant_of-self
invariant_of-self c =
    (spliced_links c.self.inside.nodes.items c.self.inside.ends.items c.args.self.now c.args.from c.args.to c.self.inside.nodes.len _ _ _ _ _
    c.self.view_is c.self.invariant c.requires.from c.requires.to c.requires.apart c.index-moved.ensures c.if-moved.false c.index-ends.ensures
    c.deref_mut.ensures.value c.deref_mut.ensures.len c.join-joined.ensures).0

pub returns : goal.returns
returns c =
    (spliced_links c.self.inside.nodes.items c.self.inside.ends.items c.args.self.now c.args.from c.args.to c.self.inside.nodes.len _ _ _ _ _
    c.self.view_is c.self.invariant c.requires.from c.requires.to c.requires.apart c.index-moved.ensures c.if-moved.false c.index-ends.ensures
    c.deref_mut.ensures.value c.deref_mut.ensures.len c.join-joined.ensures).1
