-- Links whose ends at one slot are moved to another, item by item.
use Rattle.std.proofs.Common.{◌≡◌, ◌≢◌, ◌⊎◌, inl, inr, ℕ, ◌<◌, ◌/◌, ◌==◌, true, false, cond, List, [], ◌∷◌, ◌++◌, length, set, refl, sym, ap, ◌∙◌, subst, arith}
use Rattle.std.proofs.lemmas.Bool.{cases_eq}
use Rattle.std.proofs.lemmas.Bool.Decides.{nat_tests}
use Rattle.std.proofs.lemmas.List.{length-set, get_or-set_same, get_or-set_other}
use Rattle.std.proofs.lemmas.List.Elements.{Contains-push_cases}
use Rattle.agglo_model.proofs.Members.{contains_none}
use Rattle.mutual_merge.specs.declared.links.Link.{Link}
use Rattle.mutual_merge.specs.Slots.{HaveMovedEndsOf, IsLive, link_after, moved_link, nth_link, slot_after}

slot_twice : (from to k : ℕ) → slot_after from to (slot_after from to k) ≡ slot_after from to k
slot_twice from to k = grind (arith, nat_tests)

-- what is gone stays, and what is live has its ends moved
pub moved_gone : (from to : ℕ) (l : Link) → ¬ IsLive l → moved_link from to l ≡ l
moved_gone from to l gone = elim (cases_eq l.a l.b) [
  | inl same ↦ ap (λ b. cond b l (link_after from to l)) (is_same l.a l.b same)
  | inr apart ↦ absurd (gone apart)
]
  where
    is_same : (x y : ℕ) → x ≡ y → (x == y) ≡ true
    is_same x y same = grind (arith, nat_tests)

pub moved_live : (from to : ℕ) (l : Link) → IsLive l → moved_link from to l ≡ link_after from to l
moved_live from to l live = ap (λ b. cond b l (link_after from to l)) (apart l.a l.b live)
  where
    apart : (x y : ℕ) → x ≢ y → (x == y) ≡ false
    apart x y other = grind (arith, nat_tests)

after_twice : (from to : ℕ) (l : Link) → moved_link from to (link_after from to l) ≡ link_after from to l
after_twice from to l = elim (cases_eq (link_after from to l).a (link_after from to l).b) [
  | inl same ↦ moved_gone from to (link_after from to l) (λ live. live same)
  | inr live ↦ moved_live from to (link_after from to l) live
      ∙ (λ i. record l { a = slot_twice from to l.a i; b = slot_twice from to l.b i })
]

moved_twice : (from to : ℕ) (l : Link) → moved_link from to (moved_link from to l) ≡ moved_link from to l
moved_twice from to l = elim (cases_eq l.a l.b) [
  | inl same ↦ ap (moved_link from to) (moved_gone from to l (λ live. live same))
  | inr live ↦ ap (moved_link from to) (moved_live from to l live) ∙ after_twice from to l ∙ sym (moved_live from to l live)
]

pub moved_none : (from to : ℕ) (links : List Link) → HaveMovedEndsOf [] from to links links
moved_none from to links = record {
  one_each = refl;
  each = λ i below. inl refl;
  moved = λ j inside. absurd (contains_none j inside);
}

-- a list of links with one written at an index
pub nth_written : (links : List Link) (i : ℕ) (l : Link) → i < length links → nth_link (set links i l) i ≡ l
nth_written links i l below =
    get_or-set_same links i l (record { a = 0; b = 0; contact = record { sum = 0; count = 1; tie = 0 } }) below

pub nth_other : (links : List Link) (i k : ℕ) (l : Link) → k ≢ i → nth_link (set links i l) k ≡ nth_link links k
nth_other links i k l other =
    get_or-set_other links i k l (record { a = 0; b = 0; contact = record { sum = 0; count = 1; tie = 0 } }) other

moved_at : (items : List ℕ) (i from to : ℕ) (old now : List Link) → HaveMovedEndsOf items from to old now → i < length old
    → nth_link (set now i (moved_link from to (nth_link now i))) i ≡ moved_link from to (nth_link old i)
moved_at items i from to old now are below =
    nth_written now i (moved_link from to (nth_link now i)) (subst (λ n. i < n) (sym are.one_each) below) ∙ (elim (are.each i below) [
      | inl same ↦ ap (moved_link from to) same
      | inr same ↦ ap (moved_link from to) same ∙ moved_twice from to (nth_link old i)
    ])

pub moved_more : (items : List ℕ) (item i from to : ℕ) (old now : List Link) → HaveMovedEndsOf items from to old now → item / 2 ≡ i
    → i < length old → HaveMovedEndsOf (items ++ item ∷ []) from to old (set now i (moved_link from to (nth_link now i)))
moved_more items item i from to old now are half below = record {
  one_each = length-set now i (moved_link from to (nth_link now i)) ∙ are.one_each;
  each = λ k inside. elim (cases_eq k i) [
    | inl same ↦ inr (subst (λ n. nth_link (set now i (moved_link from to (nth_link now i))) n ≡ moved_link from to (nth_link old n)) (sym same)
        (moved_at items i from to old now are below))
    | inr other ↦ subst (λ z. (z ≡ nth_link old k) ⊎ (z ≡ moved_link from to (nth_link old k)))
        (sym (nth_other now i k (moved_link from to (nth_link now i)) other)) (are.each k inside)
  ];
  moved = λ j inside. elim (cases_eq (j / 2) i) [
    | inl same ↦ subst (λ n. nth_link (set now i (moved_link from to (nth_link now i))) n ≡ moved_link from to (nth_link old n)) (sym same)
        (moved_at items i from to old now are below)
    | inr other ↦ elim (Contains-push_cases items item j inside) [
      | inl before ↦ nth_other now i (j / 2) (moved_link from to (nth_link now i)) other ∙ are.moved j before
      | inr same ↦ absurd (other (ap (λ n. n / 2) (sym same) ∙ half))
    ]
  ];
}
