use Rattle.std.proofs.Common.{◌<◌, subst, sym}
use Rattle.index_lists.proofs.Reading.{next_is}
use Rattle.index_lists.proofs.Within.{item_below}
use Rattle.index_lists.proofs.lists.Lists.next.Goals as goal

pub index-requires : goal.index-requires
index-requires c =
    subst (λ n. c.args.item < n) (sym c.self.inside.nodes.ok.0)
    (item_below c.self.inside.nodes.items c.self.inside.ends.items c.args.self.now c.args.list c.args.item c.self.view_is c.self.invariant c.requires)

pub returns-clause-after : goal.returns-clause-after
returns-clause-after c =
    next_is c.self.inside.nodes.items c.self.inside.ends.items c.args.self.now c.args.list c.args.item c.index.result.now c.item_or_none.result
    c.self.view_is c.self.invariant c.requires c.index.ensures c.item_or_none.ensures
