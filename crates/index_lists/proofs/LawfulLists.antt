-- Lists of items, one of which is changed.
use Rattle.std.proofs.Common.{◌≡◌, ◌≢◌, ℕ, ◌<◌, ◌⊎◌, List, [], length, sym, ap, ◌∙◌, subst, inl, inr, get_or-set_same, get_or-set_other}
use Rattle.std.specs.Prelude.{Contains}
use Rattle.std.proofs.lemmas.Bool.{cases_eq, cases_lt}
use Rattle.std.proofs.lemmas.List.{get_or_past}
use Rattle.agglo_model.proofs.Members.{contains_none}
use Rattle.index_lists.specs.LinkedLists.{LinkedLists, AreLists, IsLinked, list_at, with_list}
use Rattle.index_lists.proofs.ItemLists.{Once}

pub changed_list : (all : LinkedLists) (l : ℕ) (xs : List ℕ) → l < length all.lists → list_at (with_list all l xs) l ≡ xs
changed_list all l xs there = get_or-set_same all.lists l xs [] there

pub other_list : (all : LinkedLists) (l m : ℕ) (xs : List ℕ) → m ≢ l → list_at (with_list all l xs) m ≡ list_at all m
other_list all l m xs other = get_or-set_other all.lists l m xs [] other

-- only a list that there is has an item
pub list_is_there : (all : LinkedLists) (l x : ℕ) → Contains (list_at all l) x → l < length all.lists
list_is_there all l x inside = elim (cases_lt l (length all.lists)) [
  | inl there ↦ there
  | inr beyond ↦ absurd (contains_none x (subst (λ xs. Contains xs x) (get_or_past all.lists l [] beyond) inside))
]

-- an item of the changed lists is one of the changed list, or of another
pub changed_cases : (all : LinkedLists) (l m : ℕ) (xs : List ℕ) (x : ℕ) → l < length all.lists → Contains (list_at (with_list all l xs) m) x
    → ((m ≡ l) × Contains xs x) ⊎ ((m ≢ l) × Contains (list_at all m) x)
changed_cases all l m xs x there inside = elim (cases_eq m l) [
  | inl same ↦ inl (
    same,
    subst (λ ys. Contains ys x) (changed_list all l xs there)
        (subst (λ k. Contains (list_at (with_list all l xs) k) x) same inside),
  )
  | inr other ↦ inr (other, subst (λ ys. Contains ys x) (other_list all l m xs other) inside)
]

pub in_changed : (all : LinkedLists) (l : ℕ) (xs : List ℕ) (x : ℕ) → l < length all.lists → Contains xs x → Contains (list_at (with_list all l xs) l) x
in_changed all l xs x there inside = subst (λ ys. Contains ys x) (sym (changed_list all l xs there)) inside

pub in_other : (all : LinkedLists) (l m : ℕ) (xs : List ℕ) (x : ℕ) → m ≢ l → Contains (list_at all m) x → Contains (list_at (with_list all l xs) m) x
in_other all l m xs x other inside = subst (λ ys. Contains ys x) (sym (other_list all l m xs other)) inside

-- an item that stays in a list is linked still
pub linked_still : (all : LinkedLists) (l : ℕ) (xs : List ℕ) (x : ℕ) → l < length all.lists
    → (Contains (list_at all l) x → Contains xs x) → IsLinked all x → IsLinked (with_list all l xs) x
linked_still all l xs x there stays (m, inside) = elim (cases_eq m l) [
  | inl same ↦ (l, in_changed all l xs x there (stays (subst (λ k. Contains (list_at all k) x) same inside)))
  | inr other ↦ (m, in_other all l m xs x other inside)
]

-- lists stay lawful where one gets items that no other has
pub change_list : (all : LinkedLists) (l : ℕ) (xs : List ℕ) → AreLists all → l < length all.lists → Once xs
    → ((x : ℕ) → Contains xs x → x < all.items) → ((m x : ℕ) → m ≢ l → Contains xs x → ¬ Contains (list_at all m) x)
    → AreLists (with_list all l xs)
change_list all l xs lawful there once within apart = record {
  within = λ m x inside. elim (changed_cases all l m xs x there inside) [
    | inl here ↦ within x here.1
    | inr elsewhere ↦ lawful.within m x elsewhere.1
  ];
  once = λ m. elim (cases_eq m l) [
    | inl same ↦ subst (λ ys. Once ys) (sym (ap (λ k. list_at (with_list all l xs) k) same ∙ changed_list all l xs there)) once
    | inr other ↦ subst (λ ys. Once ys) (sym (other_list all l m xs other)) (lawful.once m)
  ];
  apart = λ m n x left right. elim (changed_cases all l m xs x there left) [
    | inl here ↦ elim (changed_cases all l n xs x there right) [
      | inl also ↦ here.0 ∙ sym also.0
      | inr elsewhere ↦ absurd (apart n x elsewhere.0 here.1 elsewhere.1)
    ]
    | inr elsewhere ↦ elim (changed_cases all l n xs x there right) [
      | inl here ↦ absurd (apart m x elsewhere.0 here.1 elsewhere.1)
      | inr also ↦ lawful.apart m n x elsewhere.1 also.1
    ]
  ];
}
