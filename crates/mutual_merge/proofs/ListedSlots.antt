-- Lists of the links of slots stay so while links move from one slot to another and are added up.
use Rattle.std.proofs.Common.{◌≡◌, ◌≢◌, inl, inr, ℕ, ◌<◌, ◌/◌, ◌*◌, ◌+◌, List, [], ◌++◌, length, Option, Some, None, sym, ap, ◌∙◌, subst, arith, length-set}
use Rattle.std.specs.Prelude.{Contains}
use Rattle.std.proofs.lemmas.Bool.{cases_eq}
use Rattle.std.proofs.lemmas.List.Elements.{Contains-append_left, Contains-append_right}
use Rattle.agglo_model.specs.PairOrder.{Before}
use Rattle.index_lists.specs.LinkedLists.{LinkedLists, list_at, with_list}
use Rattle.index_lists.proofs.LawfulLists.{in_changed, in_other}
use Rattle.mutual_merge.specs.declared.links.Link.{Link}
use Rattle.mutual_merge.specs.Slots.{AreGathered, AreItems, AreListed, AreSlotLinks, Covers, HaveMovedEnds, HaveMovedEndsOf, IsFirstAt, IsFirstOf, IsLive, IsLiveAt, link_after, moved_link, nth_link, slot_after}
use Rattle.mutual_merge.proofs.MovedEnds.{moved_gone, moved_live}
use Rattle.mutual_merge.proofs.TakenSlots.{moved-fewer, moved-inside, slot_kept, slot_taken}

half_even : (i : ℕ) → (2 * i) / 2 ≡ i
half_even i = omega arith

half_odd : (i : ℕ) → (2 * i + 1) / 2 ≡ i
half_odd i = omega arith

-- the list of a slot has the items of all its links
pub covers_list : (n k : ℕ) (links : List Link) (lists : LinkedLists) → AreListed n links lists → k < n → Covers (list_at lists k) links k
covers_list n k links lists listed _ i below at =
    let both = listed.complete i below at.live in
    elim at.at_slot [
      | inl same ↦ (2 * i, subst (λ s. Contains (list_at lists s) (2 * i)) same both.0, half_even i)
      | inr same ↦ (2 * i + 1, subst (λ s. Contains (list_at lists s) (2 * i + 1)) same both.1, half_odd i)
    ]

-- the first of links that are all those at a slot is the first at the slot
pub first_at_all : (links : List Link) (items : List ℕ) (k : ℕ) (first : Option ℕ) → Covers items links k → AreItems (length links) items
    → IsFirstOf links items k first → IsFirstAt links k first
first_at_all links items k None covers _ none = λ i below at.
    let (j, inside, half) = covers i below at in
    none j inside (subst (λ m. IsLiveAt k (nth_link links m)) (sym half) at)
first_at_all links items k (Some i) covers _ first = (
  first.0,
  first.1,
  λ m below at before.
      let item = covers m below at in
      first.2 item.0 item.1 (subst (λ x. IsLiveAt k (nth_link links x)) (sym item.2) at)
      (subst (λ x. Before (nth_link links x).contact (nth_link links i).contact) (sym item.2) before),
)

-- a link that does not end at a slot is the same when links at it move
pub after_elsewhere : (from to : ℕ) (l : Link) → l.a ≢ from → l.b ≢ from → link_after from to l ≡ l
after_elsewhere from to l at_a at_b = λ i. record l { a = slot_kept from to l.a at_a i; b = slot_kept from to l.b at_b i }

-- where the links of items moved, and these are all at the slot, all links at it moved
pub moved_all : (items : List ℕ) (from to : ℕ) (links new : List Link) → Covers items links from → HaveMovedEndsOf items from to links new
    → HaveMovedEnds from to links new
moved_all items from to links new covers moved = record {
  one_each = moved.one_each;
  live = λ i below live. elim (cases_eq (nth_link links i).a from) [
    | inl same ↦ at_slot i below (record { live = live; at_slot = inl same })
    | inr at_a ↦ elim (cases_eq (nth_link links i).b from) [
      | inl same ↦ at_slot i below (record { live = live; at_slot = inr same })
      | inr at_b ↦ elim (moved.each i below) [
        | inl same ↦ same ∙ sym (after_elsewhere from to (nth_link links i) at_a at_b)
        | inr same ↦ same ∙ moved_live from to (nth_link links i) live
      ]
    ]
  ];
  gone = λ i below gone. elim (moved.each i below) [
    | inl same ↦ same
    | inr same ↦ same ∙ moved_gone from to (nth_link links i) gone
  ];
}
  where
    at_slot : (i : ℕ) → i < length links → IsLiveAt from (nth_link links i) → nth_link new i ≡ link_after from to (nth_link links i)
    at_slot i below at =
        let item = covers i below at in
        subst (λ m. nth_link new m ≡ moved_link from to (nth_link links m)) item.2 (moved.moved item.0 item.1)
        ∙ moved_live from to (nth_link links i) at.live

pub moved_links_are : (n from to : ℕ) (links new : List Link) → AreSlotLinks n links → to < n → HaveMovedEnds from to links new
    → AreSlotLinks n new
moved_links_are n from to links new are inside moved = record {
  each = moved-inside from to links new moved n inside are.each;
  within = let fewer = moved-fewer from to links new moved in let w = are.within in omega arith;
}

pub gathered_links_are : (n : ℕ) (links new : List Link) → AreSlotLinks n links → AreGathered links new → AreSlotLinks n new
gathered_links_are n links new are gathered = record {
  each = gathered.inside n are.each;
  within = let fewer = gathered.fewer in let w = are.within in omega arith;
}

-- lists of which one was appended to another
abbrev spliced : LinkedLists → ℕ → ℕ → LinkedLists
spliced lists from to = with_list (with_list lists from []) to (list_at lists to ++ list_at lists from)

-- an item of a slot's list stands in that of the slot that the slot becomes
spliced_item : (lists : LinkedLists) (from to k x : ℕ) → to < length lists.lists → Contains (list_at lists k) x
    → Contains (list_at (spliced lists from to) (slot_after from to k)) x
spliced_item lists from to k x there inside = elim (cases_eq k from) [
  | inl at_from ↦
      subst (λ s. Contains (list_at (spliced lists from to) s) x) (sym (slot_taken from to k at_from))
      (at_to (Contains-append_right (list_at lists to) (list_at lists from) x (subst (λ s. Contains (list_at lists s) x) at_from inside)))
  | inr other ↦ subst (λ s. Contains (list_at (spliced lists from to) s) x) (sym (slot_kept from to k other)) (kept other)
]
  where
    at_to : Contains (list_at lists to ++ list_at lists from) x → Contains (list_at (spliced lists from to) to) x
    at_to some =
        in_changed (with_list lists from []) to (list_at lists to ++ list_at lists from) x
        (subst (λ n. to < n) (sym (length-set lists.lists from [])) there) some

    kept : k ≢ from → Contains (list_at (spliced lists from to) k) x
    kept other = elim (cases_eq k to) [
      | inl same ↦
          subst (λ s. Contains (list_at (spliced lists from to) s) x) (sym same)
          (at_to (Contains-append_left (list_at lists to) (list_at lists from) x (subst (λ s. Contains (list_at lists s) x) same inside)))
      | inr not_to ↦
          in_other (with_list lists from []) to k (list_at lists to ++ list_at lists from) x not_to
          (in_other lists from k [] x other inside)
    ]

-- The links at one slot moved to another, and so did the items of its list.
pub listed_moved : (n from to : ℕ) (links new : List Link) (lists both : LinkedLists) → AreListed n links lists → from ≢ to → from < n → to < n
    → HaveMovedEnds from to links new → both ≡ with_list (with_list lists from []) to (list_at lists to ++ list_at lists from)
    → AreListed n new both
listed_moved n from to links new lists both listed _ _ inside moved same = subst (AreListed n new) (sym same) (record {
  items_are = listed.items_are ∙ ap (λ m. 2 * m) (sym moved.one_each);
  lists_are =
      length-set (with_list lists from []).lists to (list_at lists to ++ list_at lists from)
      ∙ length-set lists.lists from [] ∙ listed.lists_are;
  complete = λ i below live.
      let low : i < length links = let len = moved.one_each in omega arith in
      elim (cases_eq (nth_link links i).a (nth_link links i).b) [
        | inl gone ↦
            absurd (live (subst (λ (l : Link). l.a ≡ l.b) (sym (moved.gone i low (λ was_live. was_live gone))) gone))
        | inr was_live ↦
            let ends = listed.complete i low was_live in
            subst (λ (l : Link). Contains (list_at (spliced lists from to) l.a) (2 * i) × Contains (list_at (spliced lists from to) l.b) (2 * i + 1))
            (sym (moved.live i low was_live)) (
              spliced_item lists from to (nth_link links i).a (2 * i) there ends.0,
              spliced_item lists from to (nth_link links i).b (2 * i + 1) there ends.1,
            )
      ];
})
  where
    there : to < length lists.lists
    there = subst (λ m. to < m) (sym listed.lists_are) inside

pub listed_gathered : (n : ℕ) (links new : List Link) (lists : LinkedLists) → AreListed n links lists → AreGathered links new
    → AreListed n new lists
listed_gathered n links new lists listed gathered = record {
  items_are = listed.items_are ∙ ap (λ m. 2 * m) (sym gathered.one_each);
  lists_are = listed.lists_are;
  complete = λ i below live.
      let low : i < length links = let len = gathered.one_each in omega arith in
      let same = gathered.same_ends i low live in
      let was_live : IsLive (nth_link links i) = λ e. live (same.0 ∙ e ∙ sym same.1) in
      let ends = listed.complete i low was_live in (
        subst (λ s. Contains (list_at lists s) (2 * i)) (sym same.0) ends.0,
        subst (λ s. Contains (list_at lists s) (2 * i + 1)) (sym same.1) ends.1,
      );
}
