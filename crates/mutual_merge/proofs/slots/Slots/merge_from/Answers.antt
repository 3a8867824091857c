use Rattle.std.proofs.Common.{rules, ◌≡◌, ◌≢◌, ℕ, ◌<◌, ◌/◌, List, length, sym, ap, ◌∙◌, subst}
use Rattle.std.specs.Prelude.{Contains, IsTrue}
use Rattle.mutual_merge.specs.declared.links.Link.{Link}
use Rattle.mutual_merge.specs.Slots.{IsLiveAt, IsSlotLink, Joins, merge_at, nth_link, other_end}
use Rattle.mutual_merge.proofs.SlotFirsts.{other_inside, read_link, slot_link_at}
use Rattle.mutual_merge.proofs.FirstPair.{ends_of}
use Rattle.mutual_merge.proofs.MergedPairs.{apart_other, inside_at, single_by}
use Rattle.mutual_merge.proofs.slots.Slots.merge_from.Goals as goal
use Rattle.mutual_merge.proofs.slots.Slots.merge_from.Goals.{After-other_end}

link_is : (c : After-other_end) → nth_link c.args.self.now.links.items c.args.index ≡ c.index.result.now
link_is c = read_link c.args.self.now.links.items c.args.index c.index.result.now c.requires.inside c.index.ensures

at_slot : (c : After-other_end) → IsLiveAt c.args.from c.index.result.now
at_slot c = subst (IsLiveAt c.args.from) (link_is c) c.requires.at_slot

slot_link : (c : After-other_end) → IsSlotLink (length c.args.self.now.regions.items) c.index.result.now
slot_link c =
    slot_link_at (length c.args.self.now.regions.items) c.args.self.now.links.items c.args.index c.index.result.now
    c.requires.indexed.listed.links_are.each c.requires.inside c.index.ensures

pub take_over-requires : goal.take_over-requires
take_over-requires c =
    let at = (goal.at.take_over-requires c).After-other_end in
    let n = length c.args.self.now.regions.items in
    record {
      indexed = c.requires.indexed;
      from = inside_at n c.args.from c.index.result.now (at_slot at) (slot_link at);
      to = subst (λ k. k < n) (sym c.other_end.ensures) (other_inside n c.args.from c.index.result.now (slot_link at));
      apart = subst (λ k. c.args.from ≢ k) (sym c.other_end.ensures) (apart_other c.args.from c.index.result.now (at_slot at));
      covers = c.requires.covers;
      items = c.requires.items;
    }

pub returns-clause-tried : goal.returns-clause-tried
returns-clause-tried c =
    let at = (goal.at.returns-clause-tried c).After-other_end in
    let links : List Link = c.args.self.now.links.items in
    let items : List ℕ = c.args.items.now in
    let index = c.args.index in
    let single : IsTrue c.is_single.result = search rules in
    record {
      merge_is = c.merge_of-merge.ensures ∙ (λ i. merge_at (c.deref-2.ensures.value i) (sym (link_is at) i));
      single =
          single_by links items index c.args.from c.requires.at_slot c.requires.covers
          (subst (λ (ls : List Link). (j : ℕ) → Contains items j
          → Joins (nth_link ls index).a (nth_link ls index).b (nth_link ls (j / 2)) → j / 2 ≡ index)
          c.deref.ensures.value (c.is_single.ensures single));
      from = c.args.from;
      to = c.other_end.result;
      joins =
          subst (λ k. Joins c.args.from k (nth_link links index))
          (ap (other_end c.args.from) (link_is at) ∙ sym c.other_end.ensures) (ends_of c.args.from (nth_link links index) c.requires.at_slot);
      taken = c.in_ok-take_over.ensures.taken;
    }
