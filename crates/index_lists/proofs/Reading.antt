-- What the first item of a list, the one after an item, and the node of an item say of the lists.
use Rattle.std.proofs.Common.{◌≡◌, ◌≢◌, ℕ, zero, suc, ◌<◌, ◌⊎◌, ◌==◌, if◌then◌else◌, List, [], ◌∷◌, ◌++◌, Option, None, Some, length, get_or, sym, ap, ◌∙◌, subst, inl, inr, ne_eqb}
use Rattle.std.specs.Prelude.{Contains, slice_get}
use Rattle.std.proofs.lemmas.Bool.{cases_eq}
use Rattle.std.proofs.lemmas.List.Elements.{Contains-append_right}
use Rattle.std.proofs.lemmas.List.{get_or_read}
use Rattle.agglo_model.proofs.Members.{contains_head, contains_tail, contains_cases, contains_none}
use Rattle.index_lists.specs.declared.nodes.Ends.{Ends}
use Rattle.index_lists.specs.declared.nodes.Node.{Node}
use Rattle.index_lists.specs.declared.nodes.TheConstants.{NONE}
use Rattle.index_lists.specs.LinkedLists.{LinkedLists, IsLinked, IsNext, list_at}
use Rattle.index_lists.specs.Links.{AreLinks, Neighbours, RunsTo, ends_at, held, linked_lists, neighbours, next_from, node_at, walks}
use Rattle.index_lists.proofs.ItemLists.{Once, contains_cut, once_back, once_head}
use Rattle.index_lists.proofs.LawfulLists.{list_is_there}
use Rattle.index_lists.proofs.Walking.{is_item, next_of_border, next_of_item}
use Rattle.index_lists.proofs.Holding.{first_cases, runs_at}

-- the item of a number, which may be the border
abbrev pub item_or_none : ℕ → Option ℕ
item_or_none x = if x == NONE then None else Some x

-- the first item of a run to the border
run_first : (s : Neighbours) (x : ℕ) (zs : List ℕ) → ((z : ℕ) → Contains zs z → z ≢ NONE) → RunsTo s x zs NONE
    → item_or_none (s.next x) ≡ slice_get zs 0
run_first s x [] items run = ap item_or_none run.on
run_first s x (z ∷ zs) items run =
    ap item_or_none run.0.on ∙ ap (λ b. if b then None else Some z) (ne_eqb z NONE (items z (contains_head z zs)))

pub first_is : (nodes : List Node) (ends : List Ends) (all : LinkedLists) (l : ℕ) (e : Ends) (answer : Option ℕ) → linked_lists nodes ends ≡ all
    → AreLinks nodes ends → l < length all.lists → e ≡ get_or ends l e → answer ≡ item_or_none e.first → answer ≡ slice_get (list_at all l) 0
first_is nodes ends all l e answer view links there read is =
    subst (λ (a : LinkedLists). l < length a.lists → answer ≡ slice_get (list_at a l) 0) view
    (λ a_there.
    let there_too : l < length ends = subst (λ k. l < k) links.one_each a_there in
    let same : e ≡ ends_at ends l = get_or_read ends l e there_too read (record { first = NONE; last = NONE }) in
    is ∙ ap (λ f. item_or_none f.first) same ∙ ap item_or_none (sym (next_of_border nodes (ends_at ends l)))
    ∙ run_first (neighbours nodes (ends_at ends l)) NONE (list_at (held nodes (walks nodes ends)) l)
    (is_item nodes ends (walks nodes ends) links l) (links.linked l there_too))
    there

in_rest : (nodes : List Node) (ends : List Ends) → AreLinks nodes ends → (l x : ℕ) (before rest : List ℕ)
    → list_at (held nodes (walks nodes ends)) l ≡ before ++ x ∷ rest → (z : ℕ) → Contains (x ∷ rest) z → Contains (list_at (held nodes (walks nodes ends)) l) z
in_rest nodes ends links l x before rest cut z inside =
    subst (λ ys. Contains ys z) (sym cut) (Contains-append_right before (x ∷ rest) z inside)

pub next_is : (nodes : List Node) (ends : List Ends) (all : LinkedLists) (l x : ℕ) (node : Node) (answer : Option ℕ) → linked_lists nodes ends ≡ all
    → AreLinks nodes ends → Contains (list_at all l) x → node ≡ get_or nodes x node → answer ≡ item_or_none node.next
    → IsNext (list_at all l) x answer
next_is nodes ends all l x node answer view links inside read is =
    subst (λ (a : LinkedLists). Contains (list_at a l) x → IsNext (list_at a l) x answer) view
    (λ a_inside before rest cut.
    let lists : List (List ℕ) = walks nodes ends in
    let e : Ends = ends_at ends l in
    let there : l < length ends = subst (λ k. l < k) links.one_each (list_is_there (held nodes lists) l x a_inside) in
    let same : node ≡ node_at nodes x = get_or_read nodes x node (links.lawful.within l x a_inside) read (record { next = NONE; previous = NONE }) in
    is ∙ ap (λ n. item_or_none n.next) same ∙ ap item_or_none (sym (next_of_item nodes e x (is_item nodes ends lists links l x a_inside)))
    ∙ run_first (neighbours nodes e) x rest
    (λ z later. is_item nodes ends lists links l z (in_rest nodes ends links l x before rest cut z (contains_tail x z rest later)))
    (runs_at nodes ends lists links l there before x rest cut).1)
    inside

contains_or_not : (xs : List ℕ) (x : ℕ) → Contains xs x ⊎ (Contains xs x → ⊥)
contains_or_not [] x = inr (contains_none x)
contains_or_not (y ∷ ys) x = elim (cases_eq y x) [
  | inl same ↦ inl (subst (λ z. Contains (y ∷ ys) z) same (contains_head y ys))
  | inr other ↦ elim (contains_or_not ys x) [
    | inl later ↦ inl (contains_tail y x ys later)
    | inr absent ↦ inr (λ inside. elim (contains_cases y x ys inside) [
      | inl same ↦ other same
      | inr later ↦ absent later
    ])
  ]
]

in_some_list : (lists : List (List ℕ)) (x : ℕ) → ((l : ℕ) × Contains (get_or lists l []) x) ⊎ ((l : ℕ) → Contains (get_or lists l []) x → ⊥)
in_some_list [] x = inr (λ l inside. contains_none x inside)
in_some_list (xs ∷ rest) x = elim (contains_or_not xs x) [
  | inl inside ↦ inl (zero, inside)
  | inr absent ↦ elim (in_some_list rest x) [
    | inl later ↦ inl (suc later.0, later.1)
    | inr none ↦ inr (λ l inside. elim l as (λ k. Contains (get_or (xs ∷ rest) k []) x → ⊥) [
      | zero ↦ λ here. absent here
      | suc k ↦ λ later. none k later
    ] inside)
  ]
]

-- an item is in some list exactly where another comes after it, or the border
pub linked_by_node : (nodes : List Node) (ends : List Ends) (all : LinkedLists) (x : ℕ) (node : Node) → linked_lists nodes ends ≡ all
    → AreLinks nodes ends → x < all.items → node ≡ get_or nodes x node → (node.next ≢ x → IsLinked all x) × (IsLinked all x → node.next ≢ x)
linked_by_node nodes ends all x node view links below read =
    subst (λ (a : LinkedLists). x < a.items → (node.next ≢ x → IsLinked a x) × (IsLinked a x → node.next ≢ x)) view
    (λ a_below.
    let lists : List (List ℕ) = walks nodes ends in
    let same : node ≡ node_at nodes x = get_or_read nodes x node a_below read (record { next = NONE; previous = NONE }) in (
      λ other. elim (in_some_list lists x) [
        | inl found ↦ found
        | inr none ↦ absurd (other (ap (λ n. n.next) same ∙ links.loose x a_below (λ linked. none linked.0 linked.1)))
      ],
      λ linked itself.
          let l : ℕ = linked.0 in
          let e : Ends = ends_at ends l in
          let there : l < length ends = subst (λ k. l < k) links.one_each (list_is_there (held nodes lists) l x linked.1) in
          let cut = contains_cut (list_at (held nodes lists) l) x linked.1 in
          let item : x ≢ NONE = is_item nodes ends lists links l x linked.1 in
          let goes_on : next_from nodes e x ≡ x = next_of_item nodes e x item ∙ sym (ap (λ n. n.next) same) ∙ itself in
          let run = (runs_at nodes ends lists links l there cut.0 x cut.1 cut.2).1 in
          elim (first_cases (neighbours nodes e) x cut.1 NONE run) [
            | inl border ↦ item (sym goes_on ∙ border)
            | inr later ↦
                let once : Once (x ∷ cut.1) = once_back cut.0 (x ∷ cut.1) (subst (λ ys. Once ys) cut.2 (links.lawful.once l)) in
                once_head x (next_from nodes e x) cut.1 once later (sym goes_on)
          ],
    ))
    below
