use Rattle.std.proofs.Common.{List, ap, arith}
use Rattle.std.proofs.lemmas.List.{get_or_read}
use Rattle.mutual_merge.specs.declared.closing.OpenSlot.{OpenSlot}
use Rattle.mutual_merge.proofs.OrderedSlots.{PlacesSoFar-next}
use Rattle.mutual_merge.proofs.closing.place_slots.Goals as goal

pub loop-place-preserved : goal.loop-place-preserved
loop-place-preserved c =
    let slots : List OpenSlot = c.args.slots.now in
    let s : OpenSlot = c.index-slots-place.result in
    let is = get_or_read slots c.loop-place.place s c.loop-place-test.true c.index-slots-place.is in
    let below = c.requires.inside c.loop-place.place s c.loop-place-test.true in
    PlacesSoFar-next c.args.count slots c.loop-place.place c.loop-place.places.items s c.loop-place.invariant c.loop-place-test.true
    is (let e = ap (λ (u : OpenSlot). u.slot) (is s) in omega arith) c.requires.apart
