use Rattle.std.proofs.Common.{take}
use Rattle.mutual_merge.specs.Hubs.{TellOf}
use Rattle.mutual_merge.proofs.hubs.list_entries.Given as goal

abbrev pub invariant-loop-item : goal.invariant-loop-item
invariant-loop-item l = TellOf l.entries.items l.links l.slot (take l.item-index l.items)
