-- Slots in which links are found.
use Rattle.std.specs.Prelude.{IfSome, List, length}
use Rattle.mutual_merge.specs.declared.links.Link.{Link}
use Rattle.mutual_merge.specs.declared.listing.SlotItems.{SlotItems}
use Rattle.mutual_merge.specs.declared.slots.Slots.{Slots}
use Rattle.mutual_merge.specs.Hubs.{AreReady}
use Rattle.mutual_merge.specs.Slots.{AreItems, AreListedSlots, Covers}

-- The links stand in the lists of their slots, and those at hubs have entries.
pub record IsIndexed (slots : Slots) : Type 0 where
  pub listed : AreListedSlots slots.regions.items slots.closed.items slots.links.items slots.lists slots.marks.items
  pub ready : AreReady slots.links.items slots.hubs

-- They are of no slot, or all items of the links at theirs.
abbrev pub AreKnown : SlotItems → List Link → Type 0
AreKnown known links = IfSome known.slot (λ k. Covers known.items.items links k × AreItems (length links) known.items.items)
