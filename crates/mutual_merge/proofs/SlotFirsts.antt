-- The first of some links at a slot, item by item.
use Rattle.std.proofs.Common.{◌≡◌, ◌==◌, Bool, true, false, cond, inl, inr, ℕ, ◌<◌, ◌/◌, List, [], ◌∷◌, ◌++◌, length, get_or, Option, Some, None, refl, sym, ap, ◌∙◌, subst, lit<}
use Rattle.std.specs.Prelude.{Contains, All, IfSome}
use Rattle.std.proofs.lemmas.Bool.{cases_lt}
use Rattle.std.proofs.lemmas.List.{get_or_read, get_or_past}
use Rattle.std.proofs.lemmas.List.Elements.{Contains-push_cases, All-get_or}
use Rattle.agglo_model.specs.PairOrder.{Before}
use Rattle.agglo_model.proofs.Means.{before_irrefl, before_trans}
use Rattle.mutual_merge.specs.declared.links.Link.{Link}
use Rattle.mutual_merge.specs.Slots.{AreTouching, IsFirstOf, IsLiveAt, IsSlotLink, nth_link, other_end}

-- the link that a read of this index gives
pub read_link : (links : List Link) (i : ℕ) (l : Link) → i < length links → l ≡ get_or links i l → nth_link links i ≡ l
read_link links i l below read =
    sym (get_or_read links i l below read (record { a = 0; b = 0; contact = record { sum = 0; count = 1; tie = 0 } }))

pub touching_at : (links : List Link) (i : ℕ) → AreTouching links → 0 < (nth_link links i).contact.count
touching_at links i touching =
    let gone : Link = record { a = 0; b = 0; contact = record { sum = 0; count = 1; tie = 0 } } in
    elim (cases_lt i (length links)) [
      | inl below ↦ All-get_or (λ (l : Link). 0 < l.contact.count) links i gone below touching
      | inr past ↦ subst (λ (l : Link). 0 < l.contact.count) (sym (get_or_past links i gone past)) (lit< tt)
    ]

-- the first one stays where one more link does not come before it at the slot
pub first_stays : (links : List Link) (seen : List ℕ) (item slot : ℕ) (first : Option ℕ) → IsFirstOf links seen slot first
    → ((i : ℕ) → first ≡ Some i → IsLiveAt slot (nth_link links (item / 2)) → ¬ (Before (nth_link links (item / 2)).contact (nth_link links i).contact))
    → (first ≡ None → ¬ IsLiveAt slot (nth_link links (item / 2)))
    → IsFirstOf links (seen ++ item ∷ []) slot first
first_stays links seen item slot None is later off = λ j inside at_slot. elim (Contains-push_cases seen item j inside) [
  | inl before ↦ is j before at_slot
  | inr same ↦ off refl (subst (λ k. IsLiveAt slot (nth_link links (k / 2))) (sym same) at_slot)
]
first_stays links seen item slot (Some i) is later off = (
  is.0,
  is.1,
  λ j inside at_slot before. elim (Contains-push_cases seen item j inside) [
    | inl earlier ↦ is.2 j earlier at_slot before
    | inr same ↦ later i refl (subst (λ k. IsLiveAt slot (nth_link links (k / 2))) (sym same) at_slot)
        (subst (λ k. Before (nth_link links (k / 2)).contact (nth_link links i).contact) (sym same) before)
  ],
)

-- one more link at the slot is the first where it comes before the first one so far
pub first_is_new : (links : List Link) (seen : List ℕ) (item index slot : ℕ) (first : Option ℕ) → AreTouching links
    → index < length links → item / 2 ≡ index → IsLiveAt slot (nth_link links index) → IsFirstOf links seen slot first
    → IfSome first (λ i. Before (nth_link links index).contact (nth_link links i).contact)
    → IsFirstOf links (seen ++ item ∷ []) slot (Some index)
first_is_new links seen item index slot first touching below half live is before = (
  below,
  live,
  λ j inside at_slot earlier. elim (Contains-push_cases seen item j inside) [
    | inl old ↦ none_before j old at_slot earlier
    | inr same ↦
        before_irrefl (nth_link links index).contact
        (subst (λ k. Before (nth_link links k).contact (nth_link links index).contact) (ap (λ k. k / 2) (sym same) ∙ half) earlier)
  ],
)
  where
    none_before : (j : ℕ) → Contains seen j → IsLiveAt slot (nth_link links (j / 2))
        → Before (nth_link links (j / 2)).contact (nth_link links index).contact → ⊥
    none_before = elim first as (λ f. IsFirstOf links seen slot f
        → IfSome f (λ i. Before (nth_link links index).contact (nth_link links i).contact)
        → (j : ℕ) → Contains seen j → IsLiveAt slot (nth_link links (j / 2))
        → Before (nth_link links (j / 2)).contact (nth_link links index).contact → ⊥) [
          | None ↦ λ none _ j old at_slot earlier. none j old at_slot
          | Some i ↦ λ some comes j old at_slot earlier.
              some.2 j old at_slot (before_trans (nth_link links (j / 2)).contact (nth_link links index).contact (nth_link links i).contact
              (touching_at links (j / 2) touching) (touching_at links index touching) (touching_at links i touching)
              earlier comes)
        ] is before

-- a read of a list of links between so many slots
pub slot_link_at : (n : ℕ) (links : List Link) (i : ℕ) (l : Link) → All (IsSlotLink n) links → i < length links → l ≡ get_or links i l → IsSlotLink n l
slot_link_at n links i l each below read = subst (IsSlotLink n) (sym read) (All-get_or (IsSlotLink n) links i l below each)

pub other_inside : (n k : ℕ) (l : Link) → IsSlotLink n l → other_end k l < n
other_inside n k l is = by_test (l.a == k)
  where
    by_test : (b : Bool) → cond b l.b l.a < n
    by_test true = is.b_inside
    by_test false = is.a_inside
