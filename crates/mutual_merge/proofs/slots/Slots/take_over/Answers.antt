use Rattle.std.proofs.Common.{◌≡◌, ◌<◌, ◌++◌, ℕ, List, true, length, length-set, get_or, set, take, refl, drop, sym, ap, ◌∙◌, subst}
use Rattle.std.proofs.lemmas.List.{get_or_read}
use Rattle.agglo_model.specs.RegionGraph.{Region}
use Rattle.mutual_merge.specs.declared.links.Link.{Link}
use Rattle.mutual_merge.specs.Hubs.{AreReady, AreReadyBut, links_of}
use Rattle.mutual_merge.specs.Linked.{region_at}
use Rattle.mutual_merge.specs.Slots.{AreGathered, AreListed, AreSlotLinks, HaveMovedEnds, HaveMovedEndsOf, both_regions}
use Rattle.mutual_merge.proofs.ListedSlots.{gathered_links_are, listed_gathered, listed_moved, moved_all, moved_links_are}
use Rattle.mutual_merge.proofs.NotedLinks.{ready_moved}
use Rattle.mutual_merge.proofs.WrittenBack.{written_back}
use Rattle.mutual_merge.proofs.slots.Slots.take_over.Goals as goal
use Rattle.mutual_merge.proofs.slots.Slots.take_over.Goals.{After-deref, In_ok-add_up}

-- the links after their ends were moved
moved_is : (c : After-deref) → HaveMovedEnds c.args.from c.args.to c.args.self.now.links.items c.move_ends.new.links
moved_is c =
    moved_all c.args.items.now c.args.from c.args.to c.args.self.now.links.items c.move_ends.new.links c.requires.covers
    (subst (λ (ls : List Link). HaveMovedEndsOf c.args.items.now c.args.from c.args.to ls c.move_ends.new.links) c.deref_mut.ensures.value c.move_ends.ensures)

moved_back : (c : After-deref) → c.deref_mut-2.result.now ≡ c.move_ends.new.links
moved_back c =
    c.deref_mut-2.ensures.value
    ∙ written_back c.move_ends.new.links c.args.self.now.links.items c.args.self.now.links.len (moved_is c).one_each c.args.self.now.links.ok.0

moved_are : (c : After-deref) → AreSlotLinks (length c.args.self.now.regions.items) c.move_ends.new.links
moved_are c =
    moved_links_are (length c.args.self.now.regions.items) c.args.from c.args.to c.args.self.now.links.items c.move_ends.new.links
    c.requires.indexed.listed.links_are c.requires.to (moved_is c)

pub add_up-requires-clause-links : goal.add_up-requires-clause-links
add_up-requires-clause-links c =
    let at = (goal.at.add_up-requires-clause-links c).After-deref in
    subst (λ n. AreSlotLinks n c.deref_mut-2.result.now) (sym (ap length c.deref.ensures.value ∙ c.requires.indexed.listed.marked))
    (subst (λ (ls : List Link). AreSlotLinks (length c.args.self.now.regions.items) ls) (sym (moved_back at)) (moved_are at))

gathered_is : (c : In_ok-add_up) → AreGathered c.move_ends.new.links c.add_up.new.links
gathered_is c =
    subst (λ (ls : List Link). AreGathered ls c.add_up.new.links) (moved_back (goal.at.In_ok-add_up c).After-deref) c.add_up.ensures.gathered

-- the links at the end are written back
links_back : (c : In_ok-add_up) → take c.args.self.now.links.len (c.add_up.new.links ++ drop (length c.add_up.new.links)
    (take c.args.self.now.links.len (c.move_ends.new.links ++ drop (length c.move_ends.new.links) c.args.self.now.links.items))) ≡ c.add_up.new.links
links_back c =
    let at = (goal.at.In_ok-add_up c).After-deref in
    let moved : List Link = c.move_ends.new.links in
    let new : List Link = c.add_up.new.links in
    let len = c.args.self.now.links.len in
    ap (λ ls. take len (new ++ drop (length new) ls))
    (written_back moved c.args.self.now.links.items len (moved_is at).one_each c.args.self.now.links.ok.0)
    ∙ written_back new moved len (gathered_is c).one_each (c.args.self.now.links.ok.0 ∙ sym (moved_is at).one_each)

-- what was changed was noted
ready_now : (c : In_ok-add_up) → AreReady c.add_up.new.links c.add_up.new.hubs
ready_now c =
    let at = (goal.at.In_ok-add_up c).After-deref in
    c.in_ok-add_up.ensures.ready
    (subst (λ (ls : List Link). AreReadyBut ls c.close.new.self (links_of c.args.items.now)) (sym (moved_back at))
    (ready_moved c.args.items.now c.args.from c.args.to c.args.self.now.links.items c.move_ends.new.links c.close.new.self
    c.requires.covers (moved_is at) (c.close.ensures.ready c.args.self.now.links.items c.requires.indexed.ready)))

pub returns-clause-indexed : goal.returns-clause-indexed
returns-clause-indexed c =
    let end = (goal.at.returns-clause-indexed c).In_ok-add_up in
    let at = (goal.at.returns-clause-indexed c).After-deref in
    let regions : List Region = c.args.self.now.regions.items in
    let as_many : length regions ≡ length (set regions c.args.to c.both.result) = sym (length-set regions c.args.to c.both.result) in
    record {
      listed = record {
        one_each = length-set c.args.self.now.closed.items c.args.from true ∙ c.requires.indexed.listed.one_each ∙ as_many;
        links_are = subst (λ n. AreSlotLinks n (take c.args.self.now.links.len (c.add_up.new.links ++ drop (length c.add_up.new.links)
            (take c.args.self.now.links.len (c.move_ends.new.links ++ drop (length c.move_ends.new.links) c.args.self.now.links.items))))) as_many
            (subst (λ (ls : List Link). AreSlotLinks (length regions) ls) (sym (links_back end))
            (gathered_links_are (length regions) c.move_ends.new.links c.add_up.new.links (moved_are at) (gathered_is end)));
        listed = subst (λ n. AreListed n (take c.args.self.now.links.len (c.add_up.new.links ++ drop (length c.add_up.new.links)
            (take c.args.self.now.links.len (c.move_ends.new.links ++ drop (length c.move_ends.new.links) c.args.self.now.links.items)))) c.splice.new.self) as_many
            (subst (λ (ls : List Link). AreListed (length regions) ls c.splice.new.self) (sym (links_back end))
            (listed_gathered (length regions) c.move_ends.new.links c.add_up.new.links c.splice.new.self
            (listed_moved (length regions) c.args.from c.args.to c.args.self.now.links.items c.move_ends.new.links c.args.self.now.lists c.splice.new.self
            c.requires.indexed.listed.listed c.requires.apart c.requires.from c.requires.to (moved_is at) c.splice.ensures)
            (gathered_is end)));
        marked = c.requires.indexed.listed.marked ∙ as_many;
      };
      ready = subst (λ (ls : List Link). AreReady ls c.add_up.new.hubs) (sym (links_back end)) (ready_now end);
    }

-- the region of a slot, as it is read
region_read : (regions : List Region) (k : ℕ) (r : Region) → k < length regions → r ≡ get_or regions k r → r ≡ region_at regions k
region_read regions k r below read = get_or_read regions k r below read (record { name = 0; faces = 0 })

pub returns-clause-taken : goal.returns-clause-taken
returns-clause-taken c =
    let end = (goal.at.returns-clause-taken c).In_ok-add_up in
    let at = (goal.at.returns-clause-taken c).After-deref in
    let regions : List Region = c.args.self.now.regions.items in
    let to_is = region_read regions c.args.to c.index.result.now c.requires.to c.index.ensures in
    let from_is = region_read regions c.args.from c.index-2.result.now c.requires.from c.index-2.ensures in
    record {
      moved = c.move_ends.new.links;
      taken = record {
        regions_are = ap (set regions c.args.to) (c.both.ensures ∙ (λ i. both_regions (to_is i) (from_is i)));
        closed_are = refl;
        links_are = moved_is at;
      };
      gathered = subst (λ (ls : List Link). AreGathered c.move_ends.new.links ls) (sym (links_back end)) (gathered_is end);
    }
