-- The graph of the open slots is the one for which they stand.
use Rattle.std.proofs.Common.{◌≡◌, ◌≢◌, ℕ, ◌^◌, ◌<◌, ◌≤◌, Bool, List, length, get_or, map, refl, sym, ap, ◌∙◌, subst, arith}
use Rattle.std.specs.Prelude.{All, AllPairs, Contains}
use Rattle.std.proofs.lemmas.List.{get_or-map, length-map}
use Rattle.std.proofs.lemmas.List.Elements.{All-contains, Contains-get_or}
use Rattle.agglo_model.specs.RegionGraph.{Region, RegionGraph}
use Rattle.agglo_model.proofs.Members.{Contains-map, Contains-unmap}
use Rattle.mutual_merge.specs.declared.links.Link.{Link}
use Rattle.mutual_merge.specs.declared.closing.OpenSlot.{OpenSlot}
use Rattle.mutual_merge.specs.Linked.{AreLinked, Ascend, region_at, name_at, graph_of}
use Rattle.mutual_merge.specs.Closing.{AreOpenSlots, ArePlaces, IsOpenSlot}
use Rattle.mutual_merge.specs.Moved.{AreRelinked}
use Rattle.mutual_merge.specs.Slots.{AreSlots, HasOpen, IsLive, IsOpen, IsSlotLink, Stands}
use Rattle.mutual_merge.proofs.LiveContacts.{live_contacts}
use Rattle.mutual_merge.proofs.OneGraph.{one_graph}
use Rattle.mutual_merge.proofs.PairRounds.{linked_graph}

-- the open slots are slots, each in one place of the list
module _ (regions : List Region) (closed : List Bool) (slots : List OpenSlot) (are_open : AreOpenSlots regions closed slots) where
  is_open : (i : ℕ) (d : OpenSlot) → i < length slots → IsOpenSlot regions closed (get_or slots i d)
  is_open i d below = (are_open.each (get_or slots i d)).0 (Contains-get_or slots i d below)

  pub slots_inside : All (λ s. s.slot < length regions) slots
  slots_inside i d below = (is_open i d below).there

  pub slots_apart : AllPairs (λ s u. s.slot ≢ u.slot) slots
  slots_apart i j d before below same =
      let low = (is_open i d (omega arith)).region_is in
      let high = (is_open j d below).region_is in
      let less = are_open.ascend i j d before below in
      let equal = ap (λ r. r.name) (sym low ∙ ap (region_at regions) same ∙ high) in
      omega arith

module _ (regions : List Region) (closed : List Bool) (links : List Link) (slots : List OpenSlot) (places : List ℕ) (joined : List Link)
    (are_slots : AreSlots regions closed links) (fit : length regions ≤ 2 ^ 32) (are_open : AreOpenSlots regions closed slots)
    (are_places : ArePlaces (length regions) slots places) (relinked : AreRelinked links places joined) where
  abbrev kept : List Region
  kept = map (λ s. s.region) slots

  kept_length : length kept ≡ length slots
  kept_length = length-map slots (λ (s : OpenSlot). s.region)

  -- the place of an open slot, where its region is
  open_place : (k : ℕ) → k < length regions → IsOpen closed k
      → (get_or places k 0 < length kept) × (region_at kept (get_or places k 0) ≡ region_at regions k)
  open_place k below open_k =
      let s : OpenSlot = record { slot = k; region = region_at regions k } in
      let found = (are_open.each s).1 (record { there = below; is_open = open_k; region_is = refl }) in
      let p = found.0 in
      let len = kept_length in
      let at_p : get_or places k 0 ≡ p =
      ap (λ (u : OpenSlot). get_or places u.slot 0) (sym found.2) ∙ are_places.each p s found.1 in (
        omega (arith, found.1),
        ap (region_at kept) at_p
            ∙ get_or-map (λ (u : OpenSlot). u.region) slots p s (record { name = 0; faces = 0 }) found.1
            ∙ ap (λ (u : OpenSlot). u.region) found.2,
      )

  -- both ends of a live link have a place, where their regions are
  end_places : (l : Link) → Contains links l → IsLive l
      → ((get_or places l.a 0 < length kept) × (region_at kept (get_or places l.a 0) ≡ region_at regions l.a))
      × ((get_or places l.b 0 < length kept) × (region_at kept (get_or places l.b 0) ≡ region_at regions l.b))
  end_places l inside live =
      let is = All-contains (IsSlotLink (length regions)) links l are_slots.links_are.each inside in
      let ends = are_slots.open_ends l inside live in
      (open_place l.a is.a_inside ends.0, open_place l.b is.b_inside ends.1)

  kept_ascend : Ascend kept
  kept_ascend i j d before below =
      let s : OpenSlot = record { slot = 0; region = d } in
      let len = kept_length in
      let low = ap (λ r. r.name) (get_or-map (λ (u : OpenSlot). u.region) slots i s d (omega arith)) in
      let high = ap (λ r. r.name) (get_or-map (λ (u : OpenSlot). u.region) slots j s d (omega arith)) in
      let less = are_open.ascend i j s before (omega arith) in
      omega arith

  pub closed_linked : AreLinked kept joined
  closed_linked = record {
    regions_ascend = kept_ascend;
    fit = let len = kept_length in let few = are_open.few in omega arith;
    links_ascend = relinked.ascend;
    links_are = record {
      each = relinked.moved.each (length kept) (λ l inside live.
          let ends = end_places l inside live in (ends.0.0, ends.1.0));
      within = let few = relinked.moved.within in let most = are_slots.links_are.within in omega arith;
    };
  }

  -- the regions that are kept are those of open slots
  open_region : (r : Region) → Contains kept r → HasOpen regions closed r
  open_region r inside =
      let found = Contains-unmap (λ (u : OpenSlot). u.region) slots r inside in
      let is = (are_open.each found.0).0 found.1 in
      (found.0.slot, is.there, is.is_open, is.region_is ∙ found.2)

  kept_region : (r : Region) → HasOpen regions closed r → Contains kept r
  kept_region r (k, below, open_k, same) =
      let s : OpenSlot = record { slot = k; region = region_at regions k } in
      subst (Contains kept) same
      (Contains-map (λ (u : OpenSlot). u.region) slots s
      ((are_open.each s).1 (record { there = below; is_open = open_k; region_is = refl })))

  pub closed_same : (graph : RegionGraph) → Stands graph regions closed links → graph_of kept joined ≡ graph
  closed_same graph stands =
      one_graph (graph_of kept joined) graph (linked_graph kept joined closed_linked) stands.graph_is
      (λ r. (
        λ inside. (stands.regions_are r).1 (open_region r inside),
        λ inside. kept_region r ((stands.regions_are r).0 inside),
      ))
      (λ past x y xy.
      relinked.moved.contacts (name_at kept) past x y xy
      ∙ live_contacts (λ k. name_at kept (get_or places k 0)) (name_at regions) links
      (λ l inside live.
      let ends = end_places l inside live in (ap (λ r. r.name) ends.0.1, ap (λ r. r.name) ends.1.1)) past x y xy
      ∙ sym (stands.contacts past x y xy))
