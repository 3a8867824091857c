use Rattle.mutual_merge.proofs.OrderedSlots.{PlacesSoFar}
use Rattle.mutual_merge.proofs.closing.place_slots.Given as goal

abbrev pub invariant-loop-place : goal.invariant-loop-place
invariant-loop-place l = PlacesSoFar l.count l.slots l.place l.places.items
