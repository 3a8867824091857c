-- A list is appended to another.
use Rattle.std.proofs.Common.{◌≡◌, ◌≢◌, ℕ, ◌<◌, ◌≤◌, ◌⊎◌, ◌==◌, if◌then◌else◌, List, [], ◌∷◌, ◌++◌, length, get_or, set, refl, sym, ap, ◌∙◌, subst, inl, inr, arith, get_or-set_same, get_or-set_other, append-nil}
use Rattle.std.specs.Prelude.{Contains}
use Rattle.std.proofs.lemmas.Bool.{cases_eq}
use Rattle.std.proofs.lemmas.List.{get_or_read, length-set, set-get_or}
use Rattle.std.proofs.lemmas.List.Elements.{Contains-append_left, Contains-append_right, Contains-append_cases}
use Rattle.agglo_model.proofs.Members.{contains_head, contains_cases, contains_none}
use Rattle.index_lists.specs.declared.nodes.Ends.{Ends}
use Rattle.index_lists.specs.declared.nodes.Node.{Node}
use Rattle.index_lists.specs.declared.nodes.TheConstants.{NONE}
use Rattle.index_lists.specs.LinkedLists.{LinkedLists, AreLists, IsLinked, list_at, with_list}
use Rattle.index_lists.specs.Links.{AreLinks, HasItems, Holds, JoinsItems, Neighbours, RunsTo, ends_at, held, linked_lists, neighbours, next_from, node_at, walks}
use Rattle.index_lists.proofs.ItemLists.{once_append, once_nil}
use Rattle.index_lists.proofs.LawfulLists.{change_list, changed_cases, in_changed, in_other}
use Rattle.index_lists.proofs.Runs.{contains_last, last_or, runs_from, runs_last, runs_on}
use Rattle.index_lists.proofs.Walking.{is_item, next_of_border, next_of_item, previous_of_border, previous_of_item}
use Rattle.index_lists.proofs.Holding.{are_links, change_held, first_cases, items_stay, next_at, once_with_border, previous_at, refilled, refilled-is}

-- what comes after a place depends on the first item of the list alone, and what comes before it on the last
next_same : (nodes : List Node) (e f : Ends) (x : ℕ) → e.first ≡ f.first → next_from nodes e x ≡ next_from nodes f x
unfolding next_from
next_same nodes e f x same = ap (λ v. if x == NONE then v else (node_at nodes x).next) same

-- a list whose first item is the border is empty
pub empty_from_first : (nodes : List Node) (ends : List Ends) (lists : List (List ℕ)) (l : ℕ) → Holds nodes ends lists → l < length ends
    → (ends_at ends l).first ≡ NONE → list_at (held nodes lists) l ≡ []
empty_from_first nodes ends lists l holds there first =
    no_items (list_at (held nodes lists) l) (holds.linked l there) (is_item nodes ends lists holds l)
  where
    no_items : (xs : List ℕ) → HasItems nodes (ends_at ends l) xs → ((x : ℕ) → Contains xs x → x ≢ NONE) → xs ≡ []
    no_items [] run items = refl
    no_items (x ∷ xs) run items =
        absurd (items x (contains_head x xs) (sym run.0.on ∙ next_of_border nodes (ends_at ends l) ∙ first))

pub spliced_empty : (nodes : List Node) (ends : List Ends) (lists : List (List ℕ)) (from to : ℕ) → Holds nodes ends lists → from < length lists
    → from ≢ to → (ends_at ends from).first ≡ NONE
    → held nodes lists ≡ with_list (with_list (held nodes lists) from []) to (list_at (held nodes lists) to ++ list_at (held nodes lists) from)
spliced_empty nodes ends lists from to holds there apart first =
    let there_too : from < length ends = omega (arith, holds.one_each) in
    let empty : get_or lists from [] ≡ [] = empty_from_first nodes ends lists from holds there_too first in
    let emptied : set lists from [] ≡ lists = ap (λ ys. set lists from ys) (sym empty) ∙ set-get_or lists from [] in
    let kept : set lists to (get_or lists to [] ++ get_or lists from []) ≡ lists =
    ap (λ ys. set lists to (get_or lists to [] ++ ys)) empty
    ∙ ap (λ ys. set lists to ys) (append-nil (get_or lists to [])) ∙ set-get_or lists to [] in
    ap (λ ls. held nodes ls) (sym (ap (λ ls. set ls to (get_or lists to [] ++ get_or lists from [])) emptied ∙ kept))

pub spliced : (nodes : List Node) (ends : List Ends) (lists : List (List ℕ)) (from to : ℕ) (nodes1 : List Node) (e1 : Ends)
    → Holds nodes ends lists → from < length lists → to < length lists → from ≢ to → (ends_at ends from).first ≢ NONE
    → JoinsItems (ends_at ends to).last (ends_at ends from).first nodes (ends_at ends to) nodes1 e1
    → Holds nodes1 (set (set ends from (record { first = NONE; last = NONE })) to (record { first = e1.first; last = (ends_at ends from).last }))
    (set (set lists from []) to (list_at (held nodes lists) to ++ list_at (held nodes lists) from))
spliced nodes ends lists from to nodes1 e1 holds from_there to_there differ some to_first =
    let all : LinkedLists = held nodes lists in
    let kept : List ℕ = list_at all to in
    let moved : List ℕ = list_at all from in
    let e : Ends = ends_at ends to in
    let f : Ends = ends_at ends from in
    let empty : Ends = record { first = NONE; last = NONE } in
    let e2 : Ends = record { first = e1.first; last = f.last } in
    let s : Neighbours = neighbours nodes e in
    let r : Neighbours = neighbours nodes f in
    let u : Neighbours = neighbours nodes1 e1 in
    let t : Neighbours = neighbours nodes1 e2 in
    let from_too : from < length ends = omega (arith, holds.one_each) in
    let to_too : to < length ends = omega (arith, holds.one_each) in
    let run_kept : RunsTo s NONE kept NONE = holds.linked to to_too in
    let run_moved : RunsTo r NONE moved NONE = holds.linked from from_too in
    let kept_items : ((x : ℕ) → Contains kept x → x ≢ NONE) = is_item nodes ends lists holds to in
    let moved_items : ((x : ℕ) → Contains moved x → x ≢ NONE) = is_item nodes ends lists holds from in
    let unlike : ((x y : ℕ) → Contains kept x → Contains moved y → x ≢ y) =
    λ x y h g same. differ (holds.lawful.apart from to x (subst (λ w. Contains moved w) (sym same) g) h) in
    let a : ℕ = last_or NONE kept in
    let b : ℕ = r.next NONE in
    let is_last : e.last ≡ a = sym (previous_of_border nodes e) ∙ runs_last s NONE kept NONE run_kept in
    let is_first : f.first ≡ b = sym (next_of_border nodes f) in
    let join : JoinsItems a b nodes e nodes1 e1 =
    subst (λ v. JoinsItems v b nodes e nodes1 e1) is_last (subst (λ v. JoinsItems e.last v nodes e nodes1 e1) is_first to_first) in
    let b_item : b ≢ NONE = λ same. some (is_first ∙ same) in
    let a_cases : (NONE ≡ a) ⊎ Contains kept a = contains_cases NONE a kept (contains_last NONE kept) in
    let b_moved : Contains moved b = elim (first_cases r NONE moved NONE run_moved) [
      | inl border ↦ absurd (b_item border)
      | inr inside ↦ inside
    ] in
    let next_is : ((x : ℕ) → t.next x ≡ u.next x) = λ x. next_same nodes1 e2 e1 x refl in
    let previous_is : ((x : ℕ) → x ≢ NONE → t.previous x ≡ u.previous x) = λ x item.
    previous_of_item nodes1 e2 x item ∙ sym (previous_of_item nodes1 e1 x item) in
    let not_a : ((w : ℕ) → Contains moved w → w ≢ a) = λ w h same. elim a_cases [
      | inl border ↦ moved_items w h (same ∙ sym border)
      | inr inside ↦ unlike a w inside h (sym same)
    ] in
    let run_rest : RunsTo t a moved NONE =
    runs_from r t NONE a moved NONE (holds.lawful.once from) (λ h. moved_items NONE h refl) (next_is a ∙ join.adjoin.on)
    (previous_is b b_item ∙ join.adjoin.back)
    (λ w h. next_is w ∙ join.next_stays w (not_a w h) ∙ next_of_item nodes e w (moved_items w h) ∙ sym (next_of_item nodes f w (moved_items w h)))
    (λ w h other.
    let item : w ≢ NONE = moved_items w h in
    previous_is w item ∙ join.previous_stays w other ∙ previous_of_item nodes e w item ∙ sym (previous_of_item nodes f w item))
    (λ other. previous_of_border nodes1 e2 ∙ sym (previous_of_border nodes f)) run_moved in
    let run : RunsTo t NONE (kept ++ moved) NONE =
    runs_on s t NONE kept NONE moved NONE (once_with_border nodes ends lists holds to) (λ w other. next_is w ∙ join.next_stays w other)
    (λ w h. previous_is w (kept_items w h) ∙ join.previous_stays w (unlike w b h b_moved)) run_kept run_rest in
    let emptied : AreLists (with_list all from []) =
    change_list all from [] holds.lawful from_there once_nil (λ x h. absurd (contains_none x h)) (λ m x other h. absurd (contains_none x h)) in
    let emptied_to : to < length (set lists from []) = omega (arith, length-set lists from []) in
    let lawful : AreLists (with_list (with_list all from []) to (kept ++ moved)) =
    change_list (with_list all from []) to (kept ++ moved) emptied emptied_to
    (once_append kept moved (holds.lawful.once to) (holds.lawful.once from) unlike)
    (λ x h. elim (Contains-append_cases kept moved x h) [
      | inl front ↦ holds.lawful.within to x front
      | inr back ↦ holds.lawful.within from x back
    ])
    (λ m x other h elsewhere. elim (changed_cases all from m [] x from_there elsewhere) [
      | inl here ↦ contains_none x here.1
      | inr yet ↦ elim (Contains-append_cases kept moved x h) [
        | inl front ↦ other (holds.lawful.apart m to x yet.1 front)
        | inr back ↦ yet.0 (holds.lawful.apart m from x yet.1 back)
      ]
    ]) in
    change_held nodes1 (set ends from empty) (set lists from []) to e2 (kept ++ moved) (subst (λ k. k ≤ NONE) (sym join.as_many) holds.few)
    (length-set lists from [] ∙ holds.one_each ∙ sym (length-set ends from empty)) (subst (λ k. to < k) (sym (length-set ends from empty)) to_too)
    (subst (λ k. AreLists (record { items = k; lists = set (set lists from []) to (kept ++ moved) })) (sym join.as_many) lawful) run
    (λ m other m_there. elim (cases_eq m from) [
      | inl same ↦
          subst (λ k. HasItems nodes1 (ends_at (set ends from empty) k) (get_or (set lists from []) k [])) (sym same)
          (subst (λ g. HasItems nodes1 g (get_or (set lists from []) from [])) (sym (get_or-set_same ends from empty empty from_too))
          (subst (λ ys. HasItems nodes1 empty ys) (sym (get_or-set_same lists from [] [] from_there))
          (record { on = next_of_border nodes1 empty; back = previous_of_border nodes1 empty })))
      | inr unlike_from ↦
          let ys : List ℕ = list_at all m in
          let items : ((x : ℕ) → Contains ys x → x ≢ NONE) = is_item nodes ends lists holds m in
          let m_too : m < length ends = omega (arith, length-set ends from empty) in
          subst (λ g. HasItems nodes1 g (get_or (set lists from []) m [])) (sym (get_or-set_other ends from m empty empty unlike_from))
          (subst (λ zs. HasItems nodes1 (ends_at ends m) zs) (sym (get_or-set_other lists from m [] [] unlike_from))
          (items_stay nodes nodes1 (ends_at ends m) ys items
          (λ x h.
          let not_joined : x ≢ a = λ same. elim a_cases [
            | inl border ↦ items x h (same ∙ sym border)
            | inr inside ↦ other (holds.lawful.apart m to x h (subst (λ w. Contains kept w) (sym same) inside))
          ] in
          next_at a b nodes e nodes1 e1 join x (items x h) not_joined)
          (λ x h.
          let not_joined : x ≢ b = λ same. unlike_from (holds.lawful.apart m from x h (subst (λ w. Contains moved w) (sym same) b_moved)) in
          previous_at a b nodes e nodes1 e1 join x (items x h) not_joined)
          (holds.linked m m_too)))
    ])
    (λ x x_there loose.
    let within : x < length nodes = omega (arith, join.as_many) in
    let few : length nodes ≤ 4294967295 = holds.few in
    let is_inner : x ≢ NONE = λ (same : x ≡ 4294967295). omega arith in
    let in_both : (Contains (kept ++ moved) x → ⊥) =
    λ h. loose (to, in_changed (with_list all from []) to (kept ++ moved) x emptied_to h) in
    let was_loose : ¬ IsLinked all x = λ linked. elim (cases_eq linked.0 from) [
      | inl same ↦ in_both (Contains-append_right kept moved x (subst (λ k. Contains (list_at all k) x) same linked.1))
      | inr other ↦ elim (cases_eq linked.0 to) [
        | inl same ↦ in_both (Contains-append_left kept moved x (subst (λ k. Contains (list_at all k) x) same linked.1))
        | inr apart ↦ loose (linked.0, in_other (with_list all from []) to linked.0 (kept ++ moved) x apart (in_other all from linked.0 [] x other linked.1))
      ]
    ] in
    let not_joined : x ≢ a = λ same. elim a_cases [
      | inl border ↦ is_inner (same ∙ sym border)
      | inr inside ↦ was_loose (to, subst (λ w. Contains kept w) (sym same) inside)
    ] in
    next_at a b nodes e nodes1 e1 join x is_inner not_joined ∙ holds.loose x within was_loose)

-- what the call leaves, from what it did step by step
pub spliced_links : (nodes : List Node) (ends : List Ends) (all : LinkedLists) (from to n : ℕ) (f e : Ends) (m1 n1 : List Node)
    (e1 : Ends) → linked_lists nodes ends ≡ all → AreLinks nodes ends → from < length all.lists → to < length all.lists → from ≢ to
    → f ≡ get_or ends from f → f.first ≢ NONE → e ≡ get_or ends to e → m1 ≡ nodes → length m1 ≡ n
    → JoinsItems e.last f.first m1 e n1 e1
    → let after : List Ends = set (set ends from (record { first = NONE; last = NONE })) to (record { first = e1.first; last = f.last }) in
    AreLinks (refilled n n1 nodes) after × (linked_lists (refilled n n1 nodes) after ≡ with_list (with_list all from []) to (list_at all to ++ list_at all from))
spliced_links nodes ends all from to n f e m1 n1 e1 view links from_there to_there apart read_from some read_to same1 long1 join =
    let seen : List Node = refilled n n1 nodes in
    let after : List Ends = set (set ends from (record { first = NONE; last = NONE })) to (record { first = e1.first; last = f.last }) in
    subst (λ (a : LinkedLists). from < length a.lists → to < length a.lists
    → AreLinks seen after × (linked_lists seen after ≡ with_list (with_list a from []) to (list_at a to ++ list_at a from))) view
    (λ a_from a_to.
    let lists : List (List ℕ) = walks nodes ends in
    let empty : Ends = record { first = NONE; last = NONE } in
    let is_from : f ≡ ends_at ends from = get_or_read ends from f (subst (λ k. from < k) links.one_each a_from) read_from empty in
    let is_to : e ≡ ends_at ends to = get_or_read ends to e (subst (λ k. to < k) links.one_each a_to) read_to empty in
    let here : JoinsItems (ends_at ends to).last (ends_at ends from).first nodes (ends_at ends to) n1 e1 =
    subst (λ v. JoinsItems (ends_at ends to).last v.first nodes (ends_at ends to) n1 e1) is_from
    (subst (λ v. JoinsItems v.last f.first nodes v n1 e1) is_to (subst (λ ns. JoinsItems e.last f.first ns e n1 e1) same1 join)) in
    let left : Holds n1 after (set (set lists from []) to (list_at (held nodes lists) to ++ list_at (held nodes lists) from)) =
    subst (λ v. Holds n1 (set (set ends from empty) to (record { first = e1.first; last = v.last }))
    (set (set lists from []) to (list_at (held nodes lists) to ++ list_at (held nodes lists) from))) (sym is_from)
    (spliced nodes ends lists from to n1 e1 links a_from a_to apart (subst (λ v. v.first ≢ NONE) is_from some) here) in
    are_links n1 after (set (set lists from []) to (list_at (held nodes lists) to ++ list_at (held nodes lists) from)) (length nodes) seen
    left here.as_many (refilled-is n n1 nodes (join.as_many ∙ long1)))
    from_there to_there

pub spliced_none : (nodes : List Node) (ends : List Ends) (all : LinkedLists) (from to : ℕ) (f : Ends) → linked_lists nodes ends ≡ all
    → AreLinks nodes ends → from < length all.lists → from ≢ to → f ≡ get_or ends from f → f.first ≡ NONE
    → all ≡ with_list (with_list all from []) to (list_at all to ++ list_at all from)
spliced_none nodes ends all from to f view links from_there apart read first =
    subst (λ (a : LinkedLists). from < length a.lists → a ≡ with_list (with_list a from []) to (list_at a to ++ list_at a from)) view
    (λ a_from.
    let is : f ≡ ends_at ends from =
    get_or_read ends from f (subst (λ k. from < k) links.one_each a_from) read (record { first = NONE; last = NONE }) in
    spliced_empty nodes ends (walks nodes ends) from to links a_from apart (subst (λ v. v.first ≡ NONE) is first))
    from_there
