use Rattle.std.proofs.Common.{take}
use Rattle.mutual_merge.specs.Slots.{HaveMovedEndsOf}
use Rattle.mutual_merge.proofs.slot_links.move_ends.Given as goal

abbrev pub invariant-loop-item : goal.invariant-loop-item
invariant-loop-item l = HaveMovedEndsOf (take l.item-index l.items) l.from l.to l.initial.links l.links
