use Rattle.std.proofs.Common.{take}
use Rattle.mutual_merge.specs.Slots.{IsFirstOf}
use Rattle.mutual_merge.proofs.slot_links.first_link.Given as goal

abbrev pub invariant-loop-item : goal.invariant-loop-item
invariant-loop-item l = IsFirstOf l.links (take l.item-index l.items) l.slot l.first
