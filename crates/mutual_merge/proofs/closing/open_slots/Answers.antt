use Rattle.std.proofs.Common.{◌≡◌, ◌∙◌, ◌+◌, ◌<◌, ◌++◌, ◌∷◌, [], ℕ, Bool, true, false, List, length, rules, refl, sym, ap, subst, arith}
use Rattle.std.proofs.lemmas.List.{get_or_default, get_or_read}
use Rattle.std.proofs.lemmas.List.Sorted.{IsNonDecreasingBy-from_sort_by_key}
use Rattle.agglo_model.specs.RegionGraph.{Region}
use Rattle.mutual_merge.specs.declared.closing.OpenSlot.{OpenSlot}
use Rattle.mutual_merge.proofs.OrderedSlots.{SlotsSoFar, SlotsSoFar-skip, SlotsSoFar-take, AreOpenSlots-sorted}
use Rattle.mutual_merge.proofs.closing.open_slots.Goals as goal
use Rattle.mutual_merge.proofs.closing.open_slots.Goals.{then-not-closed-slot+in_ok-push, else-not-closed-slot}

pub loop-slot-preserved : goal.loop-slot-preserved
loop-slot-preserved c =
    let regions : List Region = c.args.regions.now in
    let closed : List Bool = c.args.closed.now in
    let i : ℕ = c.loop-slot.slot in
    let slots : List OpenSlot = c.loop-slot.slots.items in
    let inside : i < length closed = let one_each = c.requires.one_each in let test = c.loop-slot-test.true in omega arith in
    let here = sym (get_or_read regions i c.index-regions-slot.result c.loop-slot-test.true c.index-regions-slot.is (record { name = 0; faces = 0 })) in
    elim c.if-not-closed-slot.branch [
      | then-not-closed-slot+in_ok-push w ↦
          let s : OpenSlot = record { slot = i; region = c.index-regions-slot.result } in
          let pushed : c.if-not-closed-slot.slots.items ≡ slots ++ s ∷ [] = ap (λ v. v.items) w.slots-is ∙ w.in_ok-push.ensures.items in
          subst (SlotsSoFar regions closed (i + 1)) (sym pushed) (SlotsSoFar-take regions closed i slots s c.loop-slot.invariant
          (record { there = c.loop-slot-test.true; is_open = get_or_default closed i true false inside ∙ w.if-not-closed-slot.true; region_is = here }) refl)
      | else-not-closed-slot w ↦
          let same : c.if-not-closed-slot.slots.items ≡ slots = ap (λ v. v.items) w.slots-is in
          subst (SlotsSoFar regions closed (i + 1)) (sym same) (SlotsSoFar-skip regions closed i slots c.loop-slot.invariant
          (get_or_default closed i true false inside ∙ w.if-not-closed-slot.false))
    ]

pub returns : goal.returns
returns c =
    let regions : List Region = c.args.regions.now in
    let closed : List Bool = c.args.closed.now in
    let slots : List OpenSlot = c.loop-slot.slots.items in
    let sorted : List OpenSlot = c.sort_unstable_by_key.new.self.items in
    let whole : c.loop-slot.slot ≡ length regions =
    let most = c.loop-slot.auto.slot-end in let least = c.loop-slot-test.false in omega arith in
    AreOpenSlots-sorted regions closed slots sorted c.requires.apart
    (subst (λ i. SlotsSoFar regions closed i slots) whole c.loop-slot.invariant) c.sort_unstable_by_key.ensures.permutation
    (IsNonDecreasingBy-from_sort_by_key (λ (s : OpenSlot). s.region.name) sorted c.sort_unstable_by_key.ensures.sorted (λ a r q k. search rules))
