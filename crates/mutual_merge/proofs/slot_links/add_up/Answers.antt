use Rattle.std.proofs.Common.{◌≡◌, ◌<◌, ◌/◌, ◌+◌, ◌∷◌, ℕ, List, length, drop, get_or, sym, subst, arith}
use Rattle.std.proofs.lemmas.List.{at_drop_more, drop_all}
use Rattle.mutual_merge.specs.declared.links.Link.{Link}
use Rattle.mutual_merge.specs.Hubs.{AreReadyBut, links_of}
use Rattle.mutual_merge.specs.Slots.{AreGathered, other_end}
use Rattle.mutual_merge.proofs.SlotFirsts.{other_inside, slot_link_at}
use Rattle.mutual_merge.proofs.GatheredLinks.{gathered_none, gathered_on}
use Rattle.mutual_merge.proofs.NotedLinks.{none_changed, ready_kept}
use Rattle.mutual_merge.proofs.slot_links.add_up.Goals as goal
use Rattle.mutual_merge.proofs.slot_links.add_up.Goals.{After-add_double-kept, In-loop-item}

pub loop-item-init : goal.loop-item-init
loop-item-init c = record { gathered = gathered_none c.args.links.now; ready = λ ready. ready }

-- the links of the items that are left
links_left : (items : List ℕ) (i : ℕ) → i < length items
    → links_of (drop i items) ≡ (get_or items i 0 / 2) ∷ links_of (drop (i + 1) items)
links_left items i below = at_drop_more links_of items i 0 below

-- the links after one more was added up
gathered_more : (c : After-add_double-kept) → AreGathered c.args.links.now c.add_double-kept.new.links
gathered_more c =
    gathered_on c.args.links.now c.loop-item.links c.add_double-kept.new.links c.loop-item.invariant.gathered c.add_double-kept.ensures.gathered

pub loop-item-preserved : goal.loop-item-preserved
loop-item-preserved c =
    let items = c.args.items.now in
    let i = c.loop-item.item-index in
    let links : List Link = c.loop-item.links in
    let new : List Link = c.add_double-kept.new.links in
    record {
      gathered = gathered_more (goal.at.loop-item-preserved c).After-add_double-kept;
      ready = λ before. c.in_ok-note.ensures.noted (links_of (drop (i + 1) items))
          (ready_kept links new c.loop-item.hubs (get_or items i 0 / 2) c.add_double-kept.result (links_of (drop (i + 1) items))
          c.add_double-kept.ensures.gathered.one_each c.add_double-kept.ensures.kept
          (subst (λ (js : List ℕ). AreReadyBut links c.loop-item.hubs js) (links_left items i c.loop-item-test.true) (c.loop-item.invariant.ready before)));
    }

-- the link of an item is there
item_inside : (c : In-loop-item) → get_or c.args.items.now c.loop-item.item-index 0 / 2 < length c.loop-item.links
item_inside c =
    subst (λ n. get_or c.args.items.now c.loop-item.item-index 0 / 2 < n) (sym c.loop-item.invariant.gathered.one_each)
    (c.requires.items c.loop-item.item-index 0 c.loop-item-test.true)

pub bounds-marks-partner : goal.bounds-marks-partner
bounds-marks-partner c =
    let n = length c.args.marks.now in
    let is = slot_link_at n c.loop-item.links (get_or c.args.items.now c.loop-item.item-index 0 / 2) c.index-links-index.result
    (c.loop-item.invariant.gathered.inside n c.requires.links.each)
    (item_inside (goal.at.bounds-marks-partner c).In-loop-item) c.index-links-index.is in
    subst (λ k. k < n) (sym c.other_end-partner.ensures)
    (subst (λ (l : Link). other_end c.args.slot l < n) c.index-links-index.is (other_inside n c.args.slot c.index-links-index.result is))

pub add_double-kept-requires-clause-inside : goal.add_double-kept-requires-clause-inside
add_double-kept-requires-clause-inside c = item_inside (goal.at.add_double-kept-requires-clause-inside c).In-loop-item

pub add_double-kept-requires-clause-within : goal.add_double-kept-requires-clause-within
add_double-kept-requires-clause-within c =
    let before = c.requires.links.within in
    let fewer = c.loop-item.invariant.gathered.fewer in
    omega (arith, before, fewer)

pub returns-in_err-note-clause-gathered : goal.returns-in_err-note-clause-gathered
returns-in_err-note-clause-gathered c = gathered_more (goal.at.returns-in_err-note-clause-gathered c).After-add_double-kept

pub returns-clause-ready : goal.returns-clause-ready
returns-clause-ready c ready =
    none_changed c.loop-item.links c.loop-item.hubs
    (subst (λ (js : List ℕ). AreReadyBut c.loop-item.links c.loop-item.hubs (links_of js)) (drop_all c.loop-item.item-index c.args.items.now c.loop-item-test.false)
    (c.loop-item.invariant.ready ready))
