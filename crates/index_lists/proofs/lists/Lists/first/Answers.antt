use Rattle.index_lists.proofs.Reading.{first_is}
use Rattle.index_lists.proofs.lists.Lists.first.Goals as goal

pub returns-clause-head : goal.returns-clause-head
returns-clause-head c =
    first_is c.self.inside.nodes.items c.self.inside.ends.items c.args.self.now c.args.list c.index.result.now c.item_or_none.result
    c.self.view_is c.self.invariant c.requires c.index.ensures c.item_or_none.ensures
