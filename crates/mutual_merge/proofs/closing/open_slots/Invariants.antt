use Rattle.mutual_merge.proofs.OrderedSlots.{SlotsSoFar}
use Rattle.mutual_merge.proofs.closing.open_slots.Given as goal

abbrev pub invariant-loop-slot : goal.invariant-loop-slot
invariant-loop-slot l = SlotsSoFar l.regions l.closed l.slot l.slots.items
