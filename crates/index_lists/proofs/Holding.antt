-- Nodes and ends that hold lists, and what they hold when items are joined.
use Rattle.std.proofs.Common.{◌≡◌, ◌≢◌, ℕ, ◌<◌, ◌≤◌, ◌⊎◌, List, [], ◌∷◌, ◌++◌, length, drop, set, take, sym, ap, ◌∙◌, subst, inl, inr, arith, get_or-set_same, get_or-set_other}
use Rattle.std.specs.Prelude.{Contains}
use Rattle.std.proofs.lemmas.Bool.{cases_eq}
use Rattle.std.proofs.lemmas.List.{length-set, take_at}
use Rattle.std.proofs.lemmas.List.Elements.{Contains-append_left, Contains-append_right}
use Rattle.agglo_model.proofs.Members.{contains_head, contains_tail, contains_cases}
use Rattle.index_lists.specs.declared.nodes.Ends.{Ends}
use Rattle.index_lists.specs.declared.nodes.Node.{Node}
use Rattle.index_lists.specs.declared.nodes.TheConstants.{NONE}
use Rattle.index_lists.specs.LinkedLists.{AreLists, IsLinked, list_at}
use Rattle.index_lists.specs.Links.{AreLinks, Neighbours, HasItems, Holds, JoinsItems, RunsTo, ends_at, held, linked_lists, neighbours, next_from, node_at}
use Rattle.index_lists.proofs.ItemLists.{Once, contains_cut, once_cons}
use Rattle.index_lists.proofs.LawfulLists.{list_is_there}
use Rattle.index_lists.proofs.Runs.{contains_last, last_or, runs_cut, runs_keep, runs_last}
use Rattle.index_lists.proofs.Walking.{is_item, links-are, views-are, next_of_item, next_of_border, previous_of_item, previous_of_border}

-- what comes after and before a place in a run is its end or one of its items
pub first_cases : (s : Neighbours) (x : ℕ) (zs : List ℕ) (y : ℕ) → RunsTo s x zs y → (s.next x ≡ y) ⊎ Contains zs (s.next x)
first_cases s x [] y run = inl run.on
first_cases s x (z ∷ zs) y run = inr (subst (λ w. Contains (z ∷ zs) w) (sym run.0.on) (contains_head z zs))

-- no item of a held list stands twice, nor at its border
pub once_with_border : (nodes : List Node) (ends : List Ends) (lists : List (List ℕ)) → Holds nodes ends lists → (l : ℕ)
    → Once (NONE ∷ list_at (held nodes lists) l)
once_with_border nodes ends lists holds l =
    once_cons NONE (list_at (held nodes lists) l) (λ y inside same. is_item nodes ends lists holds l y inside (sym same)) (holds.lawful.once l)

-- a list whose nodes stay as they are has the same items
pub items_stay : (nodes changed : List Node) (e : Ends) (xs : List ℕ) → ((x : ℕ) → Contains xs x → x ≢ NONE)
    → ((x : ℕ) → Contains xs x → (node_at changed x).next ≡ (node_at nodes x).next)
    → ((x : ℕ) → Contains xs x → (node_at changed x).previous ≡ (node_at nodes x).previous) → HasItems nodes e xs → HasItems changed e xs
items_stay nodes changed e xs items next previous run =
    runs_keep (neighbours nodes e) (neighbours changed e) NONE xs NONE
    (λ w inside. elim (contains_cases NONE w xs inside) [
      | inl border ↦ subst (λ v. next_from changed e v ≡ next_from nodes e v) border (next_of_border changed e ∙ sym (next_of_border nodes e))
      | inr later ↦ next_of_item changed e w (items w later) ∙ next w later ∙ sym (next_of_item nodes e w (items w later))
    ])
    (λ w inside. previous_of_item changed e w (items w inside) ∙ previous w inside ∙ sym (previous_of_item nodes e w (items w inside)))
    (previous_of_border changed e ∙ sym (previous_of_border nodes e)) run

-- what nodes say of an item that was not joined
pub next_at : (before after : ℕ) (nodes : List Node) (e : Ends) (joined : List Node) (f : Ends) → JoinsItems before after nodes e joined f
    → (x : ℕ) → x ≢ NONE → x ≢ before → (node_at joined x).next ≡ (node_at nodes x).next
next_at before after nodes e joined f join x item other =
    sym (next_of_item joined f x item) ∙ join.next_stays x other ∙ next_of_item nodes e x item

pub previous_at : (before after : ℕ) (nodes : List Node) (e : Ends) (joined : List Node) (f : Ends) → JoinsItems before after nodes e joined f
    → (x : ℕ) → x ≢ NONE → x ≢ after → (node_at joined x).previous ≡ (node_at nodes x).previous
previous_at before after nodes e joined f join x item other =
    sym (previous_of_item joined f x item) ∙ join.previous_stays x other ∙ previous_of_item nodes e x item

-- nodes hold lists of which one is changed
pub change_held : (nodes : List Node) (ends : List Ends) (lists : List (List ℕ)) (l : ℕ) (e : Ends) (xs : List ℕ) → length nodes ≤ NONE
    → length lists ≡ length ends → l < length ends → AreLists (held nodes (set lists l xs)) → HasItems nodes e xs
    → ((m : ℕ) → m ≢ l → m < length ends → HasItems nodes (ends_at ends m) (list_at (held nodes lists) m))
    → ((x : ℕ) → x < length nodes → ¬ IsLinked (held nodes (set lists l xs)) x → (node_at nodes x).next ≡ x)
    → Holds nodes (set ends l e) (set lists l xs)
change_held nodes ends lists l e xs few one_each there lawful items others loose = record {
  few = few;
  one_each = length-set lists l xs ∙ one_each ∙ sym (length-set ends l e);
  lawful = lawful;
  linked = λ m below. elim (cases_eq m l) [
    | inl same ↦
        let there_too : l < length lists = omega arith in
        subst (λ k. HasItems nodes (ends_at (set ends l e) k) (list_at (held nodes (set lists l xs)) k)) (sym same)
        (subst (λ f. HasItems nodes f (list_at (held nodes (set lists l xs)) l)) (sym (get_or-set_same ends l e (record { first = NONE; last = NONE }) there))
        (subst (λ ys. HasItems nodes e ys) (sym (get_or-set_same lists l xs [] there_too)) items))
    | inr other ↦
        let inside : m < length ends = omega (arith, length-set ends l e) in
        subst (λ f. HasItems nodes f (list_at (held nodes (set lists l xs)) m)) (sym (get_or-set_other ends l m e (record { first = NONE; last = NONE }) other))
        (subst (λ ys. HasItems nodes (ends_at ends m) ys) (sym (get_or-set_other lists l m xs [] other)) (others m other inside))
  ];
  loose = loose;
}

-- the ends of a list, and the neighbours of an item, are items that there are, or the border
pub first_within : (nodes : List Node) (ends : List Ends) (lists : List (List ℕ)) → Holds nodes ends lists → (l : ℕ) → l < length ends
    → (ends_at ends l).first ≢ NONE → (ends_at ends l).first < length nodes
first_within nodes ends lists holds l there item =
    let e : Ends = ends_at ends l in
    let s : Neighbours = neighbours nodes e in
    let xs : List ℕ = list_at (held nodes lists) l in
    subst (λ v. v < length nodes) (next_of_border nodes e) (elim (first_cases s NONE xs NONE (holds.linked l there)) [
      | inl border ↦ absurd (item (sym (next_of_border nodes e) ∙ border))
      | inr inside ↦ holds.lawful.within l (s.next NONE) inside
    ])

pub last_within : (nodes : List Node) (ends : List Ends) (lists : List (List ℕ)) → Holds nodes ends lists → (l : ℕ) → l < length ends
    → (ends_at ends l).last ≢ NONE → (ends_at ends l).last < length nodes
last_within nodes ends lists holds l there item =
    let e : Ends = ends_at ends l in
    let xs : List ℕ = list_at (held nodes lists) l in
    let is : e.last ≡ last_or NONE xs = sym (previous_of_border nodes e) ∙ runs_last (neighbours nodes e) NONE xs NONE (holds.linked l there) in
    elim (contains_cases NONE (last_or NONE xs) xs (contains_last NONE xs)) [
      | inl border ↦ absurd (item (is ∙ sym border))
      | inr inside ↦ subst (λ v. v < length nodes) (sym is) (holds.lawful.within l (last_or NONE xs) inside)
    ]

-- the runs from the border to an item and from there to the border
pub runs_at : (nodes : List Node) (ends : List Ends) (lists : List (List ℕ)) → Holds nodes ends lists → (l : ℕ) → l < length ends
    → (before : List ℕ) (x : ℕ) (rest : List ℕ) → list_at (held nodes lists) l ≡ before ++ x ∷ rest
    → RunsTo (neighbours nodes (ends_at ends l)) NONE before x × RunsTo (neighbours nodes (ends_at ends l)) x rest NONE
runs_at nodes ends lists holds l there before x rest is =
    runs_cut (neighbours nodes (ends_at ends l)) NONE before x rest NONE
    (subst (λ ys. HasItems nodes (ends_at ends l) ys) is (holds.linked l there))

pub next_within : (nodes : List Node) (ends : List Ends) (lists : List (List ℕ)) → Holds nodes ends lists → (l x : ℕ)
    → Contains (list_at (held nodes lists) l) x → (node_at nodes x).next ≢ NONE → (node_at nodes x).next < length nodes
next_within nodes ends lists holds l x inside item =
    let e : Ends = ends_at ends l in
    let there : l < length ends = subst (λ n. l < n) holds.one_each (list_is_there (held nodes lists) l x inside) in
    let cut = contains_cut (list_at (held nodes lists) l) x inside in
    let is_next : next_from nodes e x ≡ (node_at nodes x).next = next_of_item nodes e x (is_item nodes ends lists holds l x inside) in
    let run = (runs_at nodes ends lists holds l there cut.0 x cut.1 cut.2).1 in
    subst (λ v. v < length nodes) is_next (elim (first_cases (neighbours nodes e) x cut.1 NONE run) [
      | inl border ↦ absurd (item (sym is_next ∙ border))
      | inr later ↦ holds.lawful.within l (next_from nodes e x)
          (subst (λ ys. Contains ys (next_from nodes e x)) (sym cut.2)
          (Contains-append_right cut.0 (x ∷ cut.1) (next_from nodes e x) (contains_tail x (next_from nodes e x) cut.1 later)))
    ])

pub previous_within : (nodes : List Node) (ends : List Ends) (lists : List (List ℕ)) → Holds nodes ends lists → (l x : ℕ)
    → Contains (list_at (held nodes lists) l) x → (node_at nodes x).previous ≢ NONE → (node_at nodes x).previous < length nodes
previous_within nodes ends lists holds l x inside item =
    let e : Ends = ends_at ends l in
    let there : l < length ends = subst (λ n. l < n) holds.one_each (list_is_there (held nodes lists) l x inside) in
    let cut = contains_cut (list_at (held nodes lists) l) x inside in
    let run = (runs_at nodes ends lists holds l there cut.0 x cut.1 cut.2).0 in
    let is : (node_at nodes x).previous ≡ last_or NONE cut.0 =
    sym (previous_of_item nodes e x (is_item nodes ends lists holds l x inside)) ∙ runs_last (neighbours nodes e) NONE cut.0 x run in
    elim (contains_cases NONE (last_or NONE cut.0) cut.0 (contains_last NONE cut.0)) [
      | inl border ↦ absurd (item (is ∙ sym border))
      | inr front ↦ subst (λ v. v < length nodes) (sym is) (holds.lawful.within l (last_or NONE cut.0)
          (subst (λ ys. Contains ys (last_or NONE cut.0)) (sym cut.2) (Contains-append_left cut.0 (x ∷ cut.1) (last_or NONE cut.0) front)))
    ]

-- nodes and ends that hold lists are links, and are seen as these lists
pub are_links : (nodes : List Node) (ends : List Ends) (lists : List (List ℕ)) (n : ℕ) (seen : List Node) → Holds nodes ends lists
    → length nodes ≡ n → seen ≡ nodes → AreLinks seen ends × (linked_lists seen ends ≡ record { items = n; lists = lists })
are_links nodes ends lists n seen holds many same =
    subst (λ ns. AreLinks ns ends × (linked_lists ns ends ≡ record { items = n; lists = lists })) (sym same)
    (links-are nodes ends lists holds, views-are nodes ends lists holds ∙ ap (λ k. record { items = k; lists = lists }) many)

-- a vector's items after a slice of all of them was written
abbrev pub refilled : ℕ → List Node → List Node → List Node
refilled n written old = take n (written ++ drop (length written) old)

pub refilled-is : (n : ℕ) (written old : List Node) → length written ≡ n → refilled n written old ≡ written
refilled-is n written old many = take_at written (drop (length written) old) n many
