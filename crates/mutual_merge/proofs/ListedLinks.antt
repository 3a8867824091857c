-- The lists of links are filled link by link, and items of links that are gone leave them.
use Rattle.std.proofs.Common.{◌≡◌, ◌≢◌, inl, inr, ℕ, suc, ◌<◌, ◌≤◌, ◌/◌, ◌*◌, ◌+◌, ◌==◌, not, List, [], ◌∷◌, length, get_or, replicate, sym, ap, ◌∙◌, subst, arith, length-set, ne_eqb}
use Rattle.std.specs.Prelude.{Contains, All}
use Rattle.std.proofs.lemmas.Bool.{cases_eq, cases_lt}
use Rattle.std.proofs.lemmas.List.{get_or-replicate, get_or_past, length-replicate}
use Rattle.std.proofs.lemmas.List.Elements.{All-get_or, Contains-get_or}
use Rattle.std.proofs.lemmas.List.Sums.{sum_by-cons}
use Rattle.agglo_model.proofs.Members.{All-from_contains, Contains-filter, contains_cases, contains_head, contains_none, contains_tail}
use Rattle.index_lists.specs.LinkedLists.{LinkedLists, AreLists, IsLinked, list_at, with_list, without}
use Rattle.index_lists.proofs.ItemLists.{Once}
use Rattle.index_lists.proofs.LawfulLists.{changed_cases, in_changed, in_other}
use Rattle.mutual_merge.specs.declared.links.Link.{Link}
use Rattle.mutual_merge.specs.Linked.{IsLink, link_edges}
use Rattle.mutual_merge.specs.Slots.{AreItems, AreListed, IsLive, nth_link}

-- each link has some edge of the grid
pub few_links : (n : ℕ) (links : List Link) → All (IsLink n) links → length links ≤ link_edges links
few_links n [] each = omega arith
few_links n (l ∷ links) each =
    let first : IsLink n l = each 0 l (omega arith) in
    let touching : 0 < l.contact.count = first.touching in
    let rest = few_links n links (λ k d below. each (suc k) d (omega arith)) in
    omega (arith, sum_by-cons (λ (m : Link). m.contact.count) l links)

-- a list with one more item at its front
abbrev pub pushed : LinkedLists → ℕ → ℕ → LinkedLists
pushed lists s x = with_list lists s (x ∷ list_at lists s)

-- all items in lists are below this one
abbrev pub AreBelow : ℕ → LinkedLists → Type 0
AreBelow m lists = (s x : ℕ) → Contains (list_at lists s) x → x < m

pub none_linked : (m : ℕ) (lists : LinkedLists) → AreBelow m lists → ¬ IsLinked lists m
none_linked m lists below (s, inside) = let less = below s m inside in omega arith

pub pushed_below : (lists : LinkedLists) (s m : ℕ) → s < length lists.lists → AreBelow m lists → AreBelow (m + 1) (pushed lists s m)
pushed_below lists s m there below t x inside = elim (changed_cases lists s t (m ∷ list_at lists s) x there inside) [
  | inl here ↦ elim (contains_cases m x (list_at lists s) here.1) [
    | inl same ↦ omega arith
    | inr before ↦ let less = below s x before in omega arith
  ]
  | inr elsewhere ↦ let less = below t x elsewhere.1 in omega arith
]

pub pushed_there : (lists : LinkedLists) (s m : ℕ) → s < length lists.lists → Contains (list_at (pushed lists s m) s) m
pushed_there lists s m there = in_changed lists s (m ∷ list_at lists s) m there (contains_head m (list_at lists s))

pub pushed_stays : (lists : LinkedLists) (s m t x : ℕ) → s < length lists.lists → Contains (list_at lists t) x
    → Contains (list_at (pushed lists s m) t) x
pushed_stays lists s m t x there inside = elim (cases_eq t s) [
  | inl same ↦
      subst (λ k. Contains (list_at (pushed lists s m) k) x) (sym same)
      (in_changed lists s (m ∷ list_at lists s) x there
      (contains_tail m x (list_at lists s) (subst (λ k. Contains (list_at lists k) x) same inside)))
  | inr other ↦ in_other lists s t (m ∷ list_at lists s) x other inside
]

-- The lists have the items of the first links, and no others.
pub record AreListedUpTo (n : ℕ) (links : List Link) (i : ℕ) (lists : LinkedLists) : Type 0 where
  pub items_are : lists.items ≡ 2 * length links
  pub lists_are : length lists.lists ≡ n
  pub complete : (j : ℕ) → j < i → Contains (list_at lists (nth_link links j).a) (2 * j) × Contains (list_at lists (nth_link links j).b) (2 * j + 1)
  pub below : AreBelow (2 * i) lists

pub listed_none : (n : ℕ) (links : List Link) → AreListedUpTo n links 0 (record { items = 2 * length links; lists = replicate n [] })
listed_none n links = record {
  items_are = omega arith;
  lists_are = length-replicate n [];
  complete = λ j low. absurd (omega arith);
  below = λ s x inside. absurd (contains_none x (subst (λ xs. Contains xs x) (no_list s) inside));
}
  where
    no_list : (s : ℕ) → get_or {A = List ℕ} (replicate n []) s [] ≡ []
    no_list s = elim (cases_lt s n) [
      | inl there ↦ get_or-replicate n s [] [] there
      | inr past ↦ get_or_past (replicate n []) s [] (subst (λ m. m ≤ s) (sym (length-replicate n [])) past)
    ]

-- the items of both ends of a link are pushed
abbrev pub both_pushed : LinkedLists → ℕ → ℕ → ℕ → LinkedLists
both_pushed lists i a b = pushed (pushed lists a (2 * i)) b (2 * i + 1)

module _ (lists : LinkedLists) (i a b : ℕ) (a_in : a < length lists.lists) (b_in : b < length lists.lists) where
  one_length : length (pushed lists a (2 * i)).lists ≡ length lists.lists
  one_length = length-set lists.lists a ((2 * i) ∷ list_at lists a)

  both_length : length (both_pushed lists i a b).lists ≡ length lists.lists
  both_length = length-set (pushed lists a (2 * i)).lists b ((2 * i + 1) ∷ list_at (pushed lists a (2 * i)) b) ∙ one_length

  b_inside : b < length (pushed lists a (2 * i)).lists
  b_inside = subst (λ m. b < m) (sym one_length) b_in

  both_stay : (s x : ℕ) → Contains (list_at lists s) x → Contains (list_at (both_pushed lists i a b) s) x
  both_stay s x inside = pushed_stays (pushed lists a (2 * i)) b (2 * i + 1) s x b_inside (pushed_stays lists a (2 * i) s x a_in inside)

  both_there : Contains (list_at (both_pushed lists i a b) a) (2 * i) × Contains (list_at (both_pushed lists i a b) b) (2 * i + 1)
  both_there = (
    pushed_stays (pushed lists a (2 * i)) b (2 * i + 1) a (2 * i) b_inside (pushed_there lists a (2 * i) a_in),
    pushed_there (pushed lists a (2 * i)) b (2 * i + 1) b_inside,
  )

  both_below : AreBelow (2 * i) lists → AreBelow (2 * (i + 1)) (both_pushed lists i a b)
  both_below below s x inside =
      let less = pushed_below (pushed lists a (2 * i)) b (2 * i + 1) b_inside (pushed_below lists a (2 * i) a_in below) s x inside in
      omega arith

pub listed_more : (n : ℕ) (links : List Link) (i : ℕ) (lists : LinkedLists) → AreListedUpTo n links i lists
    → (nth_link links i).a < length lists.lists → (nth_link links i).b < length lists.lists
    → AreListedUpTo n links (i + 1) (both_pushed lists i (nth_link links i).a (nth_link links i).b)
listed_more n links i lists are a_in b_in =
    let a = (nth_link links i).a in
    let b = (nth_link links i).b in
    record {
      items_are = are.items_are;
      lists_are = both_length lists i a b a_in b_in ∙ are.lists_are;
      complete = λ j low. elim (cases_eq j i) [
        | inl same ↦
            subst (λ k. Contains (list_at (both_pushed lists i a b) (nth_link links k).a) (2 * k) × Contains (list_at (both_pushed lists i a b) (nth_link links k).b) (2 * k + 1))
            (sym same) (both_there lists i a b a_in b_in)
        | inr other ↦ let old = are.complete j (omega arith) in (
          both_stay lists i a b a_in b_in (nth_link links j).a (2 * j) old.0,
          both_stay lists i a b a_in b_in (nth_link links j).b (2 * j + 1) old.1,
        )
      ];
      below = both_below lists i a b a_in b_in are.below;
    }

pub link_at : (n : ℕ) (links : List Link) (i : ℕ) (l : Link) → All (IsLink n) links → i < length links → l ≡ get_or links i l → IsLink n l
link_at n links i l each below read = subst (IsLink n) (sym read) (All-get_or (IsLink n) links i l below each)

-- the items of the next link are pushed, one after the other
pub listed_next : (n : ℕ) (links : List Link) (i : ℕ) (l : Link) (lists one two : LinkedLists) → AreListedUpTo n links i lists → IsLink n l
    → nth_link links i ≡ l → one ≡ pushed lists l.a (2 * i) → two ≡ pushed one l.b (2 * i + 1) → AreListedUpTo n links (i + 1) two
listed_next n links i l lists one two are is read first second =
    let count = are.lists_are in
    let ordered : l.a < l.b = is.ordered in
    let inside : l.b < n = is.inside in
    let a_in : l.a < length lists.lists = omega arith in
    let b_in : l.b < length lists.lists = omega arith in
    subst (AreListedUpTo n links (i + 1)) (sym (second ∙ ap (λ ls. pushed ls l.b (2 * i + 1)) first))
    (subst (λ (m : Link). m.a < length lists.lists → m.b < length lists.lists → AreListedUpTo n links (i + 1) (both_pushed lists i m.a m.b))
    read (listed_more n links i lists are) a_in b_in)

pub listed_all : (n : ℕ) (links : List Link) (i : ℕ) (lists : LinkedLists) → AreListedUpTo n links i lists → length links ≤ i
    → AreListed n links lists
listed_all n links i lists are past = record {
  items_are = are.items_are;
  lists_are = are.lists_are;
  complete = λ j low _. are.complete j (omega arith);
}

-- items in lists are those of links
pub listed_items : (n : ℕ) (links : List Link) (lists : LinkedLists) (s : ℕ) → AreListed n links lists → AreLists lists
    → AreItems (length links) (list_at lists s)
listed_items n links lists s listed lawful =
    All-from_contains (λ j. j / 2 < length links) (list_at lists s) (λ j inside.
    let less = lawful.within s j inside in let count = listed.items_are in omega arith)

-- an item stays in its list when another one leaves a list
stays : (lists : LinkedLists) (slot item s x : ℕ) → slot < length lists.lists → x ≢ item → Contains (list_at lists s) x
    → Contains (list_at (with_list lists slot (without item (list_at lists slot))) s) x
stays lists slot item s x there other inside = elim (cases_eq s slot) [
  | inl same ↦
      subst (λ k. Contains (list_at (with_list lists slot (without item (list_at lists slot))) k) x) (sym same)
      (in_changed lists slot (without item (list_at lists slot)) x there
      (Contains-filter (λ y. not (y == item)) (list_at lists slot) x (subst (λ k. Contains (list_at lists k) x) same inside)
      (ap not (ne_eqb x item other))))
  | inr apart ↦ in_other lists slot s (without item (list_at lists slot)) x apart inside
]

-- an item of a link that is gone leaves a list
pub listed_without : (n : ℕ) (links : List Link) (lists : LinkedLists) (slot item : ℕ) → AreListed n links lists → slot < length lists.lists
    → ¬ IsLive (nth_link links (item / 2)) → AreListed n links (with_list lists slot (without item (list_at lists slot)))
listed_without n links lists slot item listed there gone = record {
  items_are = listed.items_are;
  lists_are = length-set lists.lists slot (without item (list_at lists slot)) ∙ listed.lists_are;
  complete = λ i below live.
      let ends = listed.complete i below live in (
        stays lists slot item (nth_link links i).a (2 * i) there (λ same. gone (of_item i (omega arith) live)) ends.0,
        stays lists slot item (nth_link links i).b (2 * i + 1) there (λ same. gone (of_item i (omega arith) live)) ends.1,
      );
}
  where
    of_item : (i : ℕ) → item / 2 ≡ i → IsLive (nth_link links i) → IsLive (nth_link links (item / 2))
    of_item i half live = subst (λ k. IsLive (nth_link links k)) (sym half) live

-- the items from an index on still stand in the list
abbrev pub AreAhead : List ℕ → ℕ → LinkedLists → ℕ → Type 0
AreAhead items i lists slot = (j : ℕ) → i ≤ j → j < length items → Contains (list_at lists slot) (get_or items j 0)

pub ahead_all : (items : List ℕ) (lists : LinkedLists) (slot : ℕ) → items ≡ list_at lists slot → AreAhead items 0 lists slot
ahead_all items lists slot are j _ below = subst (λ xs. Contains xs (get_or items j 0)) are (Contains-get_or items j 0 below)

pub ahead_without : (items : List ℕ) (lists : LinkedLists) (slot i : ℕ) → Once items → slot < length lists.lists → AreAhead items i lists slot
    → AreAhead items (i + 1) (with_list lists slot (without (get_or items i 0) (list_at lists slot))) slot
ahead_without items lists slot i once there ahead j from below =
    stays lists slot (get_or items i 0) slot (get_or items j 0) there (λ same. once i j 0 (omega arith) below (sym same))
    (ahead j (omega arith) below)

-- one item less is ahead
pub ahead_less : (items : List ℕ) (i : ℕ) (lists : LinkedLists) (slot : ℕ) → AreAhead items i lists slot → AreAhead items (i + 1) lists slot
ahead_less items i lists slot ahead j from below = ahead j (omega arith) below
