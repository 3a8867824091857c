-- The first contact at each region, link by link.
use Rattle.std.proofs.Common.{◌≡◌, ◌≢◌, ◌⊎◌, inl, inr, ℕ, ◌+◌, ◌<◌, List, [], ◌∷◌, ◌++◌, length, get_or, set, take, replicate, Option, Some, None, refl, sym, ap, ◌∙◌, subst, arith}
use Rattle.std.specs.Prelude.{Contains, All}
use Rattle.std.proofs.lemmas.List.{take_more, get_or_read, length-replicate, length-set, get_or-replicate, get_or-set_same, get_or-set_other}
use Rattle.std.proofs.lemmas.List.Elements.{Contains-push, Contains-append_left, Contains-push_cases, All-contains, All-take, All-get_or}
use Rattle.agglo_model.specs.PairOrder.{Contact, Before}
use Rattle.agglo_model.proofs.Means.{before_irrefl, before_trans}
use Rattle.agglo_model.proofs.Members.{contains_none}
use Rattle.mutual_merge.specs.declared.links.Link.{Link}
use Rattle.mutual_merge.specs.Linked.{IsLink, IsAtPlace}
use Rattle.mutual_merge.specs.Firsts.{IsFirstContact, IsFirst, AreFirsts, IsEarlier}
use Rattle.mutual_merge.proofs.RegionPlaces.{place_cases}

pub AreFirsts-none : (n : ℕ) → AreFirsts [] n (replicate n None)
AreFirsts-none n = record {
  one_each = length-replicate n None;
  first = λ k below. subst (IsFirst [] k) (sym (get_or-replicate n k None None below)) (λ l inside. absurd (contains_none l inside));
}

-- a link that is not at the place changes nothing there
IsFirst-other : (ls : List Link) (l : Link) (k : ℕ) (o : Option Contact) → ¬ (IsAtPlace k l) → IsFirst ls k o
    → IsFirst (ls ++ l ∷ []) k o
IsFirst-other ls l k None off first = λ m inside at_k. elim (Contains-push_cases ls l m inside) [
  | inl before ↦ first m before at_k
  | inr same ↦ off (subst (IsAtPlace k) (sym same) at_k)
]
IsFirst-other ls l k (Some c) off first = record {
  link = first.link;
  there = Contains-append_left ls (l ∷ []) first.link first.there;
  at_place = first.at_place;
  contact_is = first.contact_is;
  none_before = λ m inside at_k. elim (Contains-push_cases ls l m inside) [
    | inl before ↦ first.none_before m before at_k
    | inr same ↦ absurd (off (subst (IsAtPlace k) (sym same) at_k))
  ];
}

-- the link that is now the first at its place
itself : (ls : List Link) (l : Link) (k : ℕ) → IsAtPlace k l
    → ((m : Link) → Contains ls m → IsAtPlace k m → ¬ (Before m.contact l.contact)) → IsFirstContact (ls ++ l ∷ []) k l.contact
itself ls l k at_l none = record {
  link = l;
  there = Contains-push ls l;
  at_place = at_l;
  contact_is = refl;
  none_before = λ m inside at_k. elim (Contains-push_cases ls l m inside) [
    | inl before ↦ none m before at_k
    | inr same ↦ subst (λ z. ¬ (Before z.contact l.contact)) same (before_irrefl l.contact)
  ];
}

abbrev HaveCounts : List Link → Type 0
HaveCounts ls = (m : Link) → Contains ls m → 0 < m.contact.count

-- a link at the place, where the earlier contact is known
IsFirst-more : (ls : List Link) (l : Link) (k : ℕ) (o earlier : Option Contact) → IsAtPlace k l → HaveCounts ls
    → 0 < l.contact.count → IsFirst ls k o → IsEarlier o l.contact earlier → IsFirst (ls ++ l ∷ []) k earlier
IsFirst-more ls l k None earlier at_l counts some first same =
    subst (IsFirst (ls ++ l ∷ []) k) (sym same) (itself ls l k at_l (λ m inside at_k. absurd (first m inside at_k)))
IsFirst-more ls l k (Some d) earlier at_l counts some first (inl (same, later)) =
    subst (IsFirst (ls ++ l ∷ []) k) (sym same) (record {
      link = first.link;
      there = Contains-append_left ls (l ∷ []) first.link first.there;
      at_place = first.at_place;
      contact_is = first.contact_is;
      none_before = λ m inside at_k. elim (Contains-push_cases ls l m inside) [
        | inl before ↦ first.none_before m before at_k
        | inr equal ↦ subst (λ z. ¬ (Before z.contact d)) equal later
      ];
    })
IsFirst-more ls l k (Some d) earlier at_l counts some first (inr (same, before_d)) =
    let pos : 0 < d.count = subst (λ c. 0 < c.count) first.contact_is (counts first.link first.there) in
    subst (IsFirst (ls ++ l ∷ []) k) (sym same)
    (itself ls l k at_l (λ m inside at_k before. first.none_before m inside at_k
    (before_trans m.contact l.contact d (counts m inside) some pos before before_d)))

-- the first contacts after one more link
pub AreFirsts-more : (ls : List Link) (l : Link) (n : ℕ) (firsts : List (Option Contact)) (one other : Option Contact)
    → AreFirsts ls n firsts → All (IsLink n) ls → IsLink n l
    → IsEarlier (get_or firsts l.a None) l.contact one → IsEarlier (get_or (set firsts l.a one) l.b None) l.contact other
    → AreFirsts (ls ++ l ∷ []) n (set (set firsts l.a one) l.b other)
AreFirsts-more ls l n firsts one other are each is at_a at_b = record {
  one_each = length-set (set firsts l.a one) l.b other ∙ length-set firsts l.a one ∙ are.one_each;
  first = λ k below. by_cases k below (place_cases k l.a l.b);
}
  where
    counts : HaveCounts ls
    counts m inside = (All-contains (IsLink n) ls m each inside).touching

    a_below : l.a < length firsts
    a_below = let len = are.one_each in let up = is.ordered in let low = is.inside in omega arith

    b_below : l.b < length (set firsts l.a one)
    b_below = let len = length-set firsts l.a one in let all = are.one_each in let low = is.inside in omega arith

    differ : l.a ≢ l.b
    differ = let up = is.ordered in λ e. omega arith

    at_other : IsEarlier (get_or firsts l.b None) l.contact other
    at_other = subst (λ o. IsEarlier o l.contact other) (get_or-set_other firsts l.a l.b one None (λ e. differ (sym e))) at_b

    by_cases : (k : ℕ) → k < n → (k ≡ l.a) ⊎ (k ≡ l.b) ⊎ ((l.a ≢ k) × (l.b ≢ k))
        → IsFirst (ls ++ l ∷ []) k (get_or (set (set firsts l.a one) l.b other) k None)
    by_cases k below (inl same) =
        subst (λ z. IsFirst (ls ++ l ∷ []) z (get_or (set (set firsts l.a one) l.b other) z None)) (sym same)
        (subst (IsFirst (ls ++ l ∷ []) l.a)
        (sym (get_or-set_other (set firsts l.a one) l.b l.a other None differ ∙ get_or-set_same firsts l.a one None a_below))
        (IsFirst-more ls l l.a (get_or firsts l.a None) one (inl refl) counts is.touching
        (are.first l.a (let up = is.ordered in let low = is.inside in omega arith)) at_a))
    by_cases k below (inr (inl same)) =
        subst (λ z. IsFirst (ls ++ l ∷ []) z (get_or (set (set firsts l.a one) l.b other) z None)) (sym same)
        (subst (IsFirst (ls ++ l ∷ []) l.b) (sym (get_or-set_same (set firsts l.a one) l.b other None b_below))
        (IsFirst-more ls l l.b (get_or firsts l.b None) other (inr refl) counts is.touching (are.first l.b is.inside) at_other))
    by_cases k below (inr (inr (not_a, not_b))) =
        subst (IsFirst (ls ++ l ∷ []) k)
        (sym (get_or-set_other (set firsts l.a one) l.b k other None (λ e. not_b (sym e))
        ∙ get_or-set_other firsts l.a k one None (λ e. not_a (sym e))))
        (IsFirst-other ls l k (get_or firsts k None) (λ at_k. elim at_k [ inl e ↦ not_a e | inr e ↦ not_b e ]) (are.first k below))

-- the same, as a loop over the links has it
pub AreFirsts-step : (links : List Link) (i n : ℕ) (l : Link) (firsts : List (Option Contact)) (x y one other : Option Contact)
    → AreFirsts (take i links) n firsts → All (IsLink n) links → i < length links → l ≡ get_or links i l
    → x ≡ get_or firsts l.a x → IsEarlier x l.contact one
    → y ≡ get_or (set firsts l.a one) l.b y → IsEarlier y l.contact other
    → AreFirsts (take (i + 1) links) n (set (set firsts l.a one) l.b other)
AreFirsts-step links i n l firsts x y one other are each below at_i at_x first at_y second =
    let is : IsLink n l = subst (IsLink n) (sym at_i) (All-get_or (IsLink n) links i l below each) in
    let len = are.one_each in
    let up = is.ordered in
    let low = is.inside in
    let len' = length-set firsts l.a one in
    let x_is = get_or_read firsts l.a x (omega arith) at_x None in
    let y_is = get_or_read (set firsts l.a one) l.b y (omega arith) at_y None in
    subst (λ ls. AreFirsts ls n (set (set firsts l.a one) l.b other))
    (ap (λ z. take i links ++ z ∷ []) at_i ∙ sym (take_more links i l below))
    (AreFirsts-more (take i links) l n firsts one other are (All-take (IsLink n) i links each) is
    (subst (λ o. IsEarlier o l.contact one) x_is first) (subst (λ o. IsEarlier o l.contact other) y_is second))
