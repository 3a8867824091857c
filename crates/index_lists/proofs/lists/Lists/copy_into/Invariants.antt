use Rattle.std.proofs.Common.{◌-◌}
use Rattle.index_lists.specs.LinkedLists.{list_at}
use Rattle.index_lists.proofs.Copying.{IsCopiedTo}
use Rattle.index_lists.proofs.lists.Lists.copy_into.Given as goal

abbrev pub invariant-loop : goal.invariant-loop
invariant-loop l =
    IsCopiedTo l.self-inside.nodes.items (list_at l.self l.list) l.initial.items.items l.items.items (l.end - l.counter) l.item
