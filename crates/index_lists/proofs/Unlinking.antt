-- An item is taken out of its list.
use Rattle.std.proofs.Common.{◌≡◌, ◌≢◌, ℕ, ◌<◌, ◌≤◌, ◌⊎◌, List, ◌∷◌, ◌++◌, length, get_or, set, refl, sym, ap, ◌∙◌, subst, inl, inr, arith, get_or-set_same, get_or-set_other}
use Rattle.std.specs.Prelude.{Contains}
use Rattle.std.proofs.lemmas.Bool.{cases_eq}
use Rattle.std.proofs.lemmas.List.{get_or_read, length-set}
use Rattle.std.proofs.lemmas.List.Elements.{Contains-append_left, Contains-append_right, Contains-append_cases}
use Rattle.agglo_model.proofs.Members.{contains_head, contains_tail, contains_cases}
use Rattle.index_lists.specs.declared.nodes.Ends.{Ends}
use Rattle.index_lists.specs.declared.nodes.Node.{Node}
use Rattle.index_lists.specs.declared.nodes.TheConstants.{NONE}
use Rattle.index_lists.specs.LinkedLists.{LinkedLists, AreLists, IsLinked, list_at, with_list, without}
use Rattle.index_lists.specs.Links.{AreLinks, HasItems, Holds, JoinsItems, Neighbours, RunsTo, ends_at, held, linked_lists, neighbours, node_at, walks}
use Rattle.index_lists.proofs.ItemLists.{Once, contains_cut, once_append, once_back, once_between, once_front, once_head, once_tail, without_cut}
use Rattle.index_lists.proofs.LawfulLists.{change_list, linked_still, list_is_there}
use Rattle.index_lists.proofs.Runs.{contains_last, last_or, runs_cut, runs_from, runs_last, runs_on}
use Rattle.index_lists.proofs.Walking.{is_item, next_of_item, previous_of_item}
use Rattle.index_lists.proofs.Holding.{are_links, change_held, first_cases, items_stay, next_at, once_with_border, previous_at, refilled, refilled-is}

pub unlinked : (nodes : List Node) (ends : List Ends) (lists : List (List ℕ)) (l item : ℕ) (nodes1 : List Node) (e1 : Ends) (n : Node)
    → Holds nodes ends lists → Contains (list_at (held nodes lists) l) item
    → JoinsItems (node_at nodes item).previous (node_at nodes item).next nodes (ends_at ends l) nodes1 e1 → n.next ≡ item
    → Holds (set nodes1 item n) (set ends l e1) (set lists l (without item (list_at (held nodes lists) l)))
unlinked nodes ends lists l item nodes1 e1 n holds inside to_next itself =
    let all : LinkedLists = held nodes lists in
    let xs : List ℕ = list_at all l in
    let e : Ends = ends_at ends l in
    let s : Neighbours = neighbours nodes e in
    let t : Neighbours = neighbours nodes1 e1 in
    let nodes2 : List Node = set nodes1 item n in
    let there : l < length lists = list_is_there all l item inside in
    let there_too : l < length ends = omega (arith, holds.one_each) in
    let below : item < length nodes = holds.lawful.within l item inside in
    let many : length nodes2 ≡ length nodes = length-set nodes1 item n ∙ to_next.as_many in
    let inner : ((x : ℕ) → Contains xs x → x ≢ NONE) = is_item nodes ends lists holds l in
    let cut = contains_cut xs item inside in
    let before : List ℕ = cut.0 in
    let rest : List ℕ = cut.1 in
    let is : xs ≡ before ++ item ∷ rest = cut.2 in
    let once : Once (NONE ∷ before ++ item ∷ rest) = subst (λ ys. Once (NONE ∷ ys)) is (once_with_border nodes ends lists holds l) in
    let once_cut : Once (before ++ item ∷ rest) = once_tail NONE (before ++ item ∷ rest) once in
    let once_rest : Once (item ∷ rest) = once_back before (item ∷ rest) once_cut in
    let whole : RunsTo s NONE (before ++ item ∷ rest) NONE = subst (λ ys. RunsTo s NONE ys NONE) is (holds.linked l there_too) in
    let runs = runs_cut s NONE before item rest NONE whole in
    let to_item : RunsTo s NONE before item = runs.0 in
    let from_item : RunsTo s item rest NONE = runs.1 in
    let a : ℕ = last_or NONE before in
    let b : ℕ = s.next item in
    let is_previous : (node_at nodes item).previous ≡ a =
    sym (previous_of_item nodes e item (inner item inside)) ∙ runs_last s NONE before item to_item in
    let is_next : (node_at nodes item).next ≡ b = sym (next_of_item nodes e item (inner item inside)) in
    let join : JoinsItems a b nodes e nodes1 e1 =
    subst (λ v. JoinsItems v b nodes e nodes1 e1) is_previous
    (subst (λ v. JoinsItems (node_at nodes item).previous v nodes e nodes1 e1) is_next to_next) in
    let in_before : ((x : ℕ) → Contains before x → Contains xs x) =
    λ x h. subst (λ ys. Contains ys x) (sym is) (Contains-append_left before (item ∷ rest) x h) in
    let in_rest : ((x : ℕ) → Contains rest x → Contains xs x) =
    λ x h. subst (λ ys. Contains ys x) (sym is) (Contains-append_right before (item ∷ rest) x (contains_tail item x rest h)) in
    -- what is joined is the border, or stands in this list
    let a_cases : (NONE ≡ a) ⊎ Contains before a = contains_cases NONE a before (contains_last NONE before) in
    let b_cases : (b ≡ NONE) ⊎ Contains rest b = first_cases s item rest NONE from_item in
    let not_a : ((w : ℕ) → Contains rest w → w ≢ a) = λ w h same.
    once_between (NONE ∷ before) (item ∷ rest) a w once (contains_last NONE before) (contains_tail item w rest h) (sym same) in
    let not_b : ((w : ℕ) → Contains before w → w ≢ b) = λ w h same. elim b_cases [
      | inl border ↦ inner w (in_before w h) (same ∙ border)
      | inr later ↦ once_between before (item ∷ rest) w b once_cut h (contains_tail item b rest later) same
    ] in
    let run_rest : RunsTo t a rest NONE =
    runs_from s t item a rest NONE (once_tail item rest once_rest) (λ h. inner NONE (in_rest NONE h) refl)
    join.adjoin.on join.adjoin.back (λ w h. join.next_stays w (not_a w h)) (λ w h other. join.previous_stays w other)
    (λ other. join.previous_stays NONE other) from_item in
    let run : RunsTo t NONE (before ++ rest) NONE =
    runs_on s t NONE before item rest NONE (once_front (NONE ∷ before) (item ∷ rest) once)
    (λ w other. join.next_stays w other) (λ w h. join.previous_stays w (not_b w h)) to_item run_rest in
    let left_in : ((x : ℕ) → Contains (before ++ rest) x → Contains xs x) = λ x h. elim (Contains-append_cases before rest x h) [
      | inl front ↦ in_before x front
      | inr back ↦ in_rest x back
    ] in
    let not_item : ((x : ℕ) → Contains (before ++ rest) x → x ≢ item) = λ x h same. elim (Contains-append_cases before rest x h) [
      | inl front ↦ once_between before (item ∷ rest) x item once_cut front (contains_head item rest) same
      | inr back ↦ once_head item x rest once_rest back (sym same)
    ] in
    let once_left : Once (before ++ rest) =
    once_append before rest (once_front before (item ∷ rest) once_cut) (once_tail item rest once_rest)
    (λ x y front back. once_between before (item ∷ rest) x y once_cut front (contains_tail item y rest back)) in
    let default : Node = record { next = NONE; previous = NONE } in
    let node_stays : ((x : ℕ) → x ≢ item → node_at nodes2 x ≡ node_at nodes1 x) = λ x other. get_or-set_other nodes1 item x n default other in
    let left_items : HasItems nodes2 e1 (before ++ rest) =
    items_stay nodes1 nodes2 e1 (before ++ rest) (λ x h. inner x (left_in x h))
    (λ x h. ap (λ v. v.next) (node_stays x (not_item x h))) (λ x h. ap (λ v. v.previous) (node_stays x (not_item x h))) run in
    let lawful : AreLists (with_list all l (before ++ rest)) =
    change_list all l (before ++ rest) holds.lawful there once_left (λ x h. holds.lawful.within l x (left_in x h))
    (λ m x other h elsewhere. other (holds.lawful.apart m l x elsewhere (left_in x h))) in
    let changed : Holds nodes2 (set ends l e1) (set lists l (before ++ rest)) =
    change_held nodes2 ends lists l e1 (before ++ rest) (subst (λ k. k ≤ NONE) (sym many) holds.few) holds.one_each there_too
    (subst (λ k. AreLists (record { items = k; lists = set lists l (before ++ rest) })) (sym many) lawful) left_items
    (λ m other m_there.
    let ys : List ℕ = list_at all m in
    let items : ((x : ℕ) → Contains ys x → x ≢ NONE) = is_item nodes ends lists holds m in
    let elsewhere : ((x y : ℕ) → Contains ys x → Contains xs y → x ≢ y) =
    λ x y h g same. other (holds.lawful.apart m l x h (subst (λ w. Contains xs w) (sym same) g)) in
    items_stay nodes nodes2 (ends_at ends m) ys items
    (λ x h.
    let unlike : x ≢ a = λ same. elim a_cases [
      | inl border ↦ items x h (same ∙ sym border)
      | inr front ↦ elsewhere x a h (in_before a front) same
    ] in
    ap (λ v. v.next) (node_stays x (elsewhere x item h inside)) ∙ next_at a b nodes e nodes1 e1 join x (items x h) unlike)
    (λ x h.
    let unlike : x ≢ b = λ same. elim b_cases [
      | inl border ↦ items x h (same ∙ border)
      | inr back ↦ elsewhere x b h (in_rest b back) same
    ] in
    ap (λ v. v.previous) (node_stays x (elsewhere x item h inside)) ∙ previous_at a b nodes e nodes1 e1 join x (items x h) unlike)
    (holds.linked m m_there))
    (λ x x_there loose. elim (cases_eq x item) [
      | inl same ↦
          let there_yet : item < length nodes1 = omega (arith, to_next.as_many) in
          subst (λ w. (node_at nodes2 w).next ≡ w) (sym same) (ap (λ v. v.next) (get_or-set_same nodes1 item n default there_yet) ∙ itself)
      | inr other ↦
          let within : x < length nodes = omega arith in
          let few : length nodes ≤ 4294967295 = holds.few in
          let is_inner : x ≢ NONE = λ (same : x ≡ 4294967295). omega arith in
          let left_still : (Contains xs x → Contains (before ++ rest) x) = λ h.
          elim (Contains-append_cases before (item ∷ rest) x (subst (λ ys. Contains ys x) is h)) [
            | inl front ↦ Contains-append_left before rest x front
            | inr back ↦ elim (contains_cases item x rest back) [
              | inl same ↦ absurd (other (sym same))
              | inr later ↦ Contains-append_right before rest x later
            ]
          ] in
          let was_loose : ¬ IsLinked all x = λ linked. loose (linked_still all l (before ++ rest) x there left_still linked) in
          let unlike : x ≢ a = λ same. elim a_cases [
            | inl border ↦ is_inner (same ∙ sym border)
            | inr front ↦ was_loose (l, subst (λ w. Contains xs w) (sym same) (in_before a front))
          ] in
          ap (λ v. v.next) (node_stays x other) ∙ next_at a b nodes e nodes1 e1 join x is_inner unlike ∙ holds.loose x within was_loose
    ]) in
    subst (λ ys. Holds nodes2 (set ends l e1) (set lists l ys)) (sym (ap (without item) is ∙ without_cut item before rest once_cut)) changed

-- what the call leaves, from what it did step by step
pub unlinked_links : (nodes : List Node) (ends : List Ends) (all : LinkedLists) (l item n : ℕ) (node : Node) (e : Ends) (m1 n1 : List Node)
    (e1 : Ends) (loose : Node) → linked_lists nodes ends ≡ all → AreLinks nodes ends → Contains (list_at all l) item
    → node ≡ get_or nodes item node → e ≡ get_or ends l e → m1 ≡ nodes → length m1 ≡ n → JoinsItems node.previous node.next m1 e n1 e1
    → loose.next ≡ item
    → AreLinks (set (refilled n n1 nodes) item loose) (set ends l e1)
    × (linked_lists (set (refilled n n1 nodes) item loose) (set ends l e1) ≡ with_list all l (without item (list_at all l)))
unlinked_links nodes ends all l item n node e m1 n1 e1 loose view links inside read_node read same1 long1 join itself =
    let seen : List Node = set (refilled n n1 nodes) item loose in
    subst (λ (a : LinkedLists). Contains (list_at a l) item
    → AreLinks seen (set ends l e1) × (linked_lists seen (set ends l e1) ≡ with_list a l (without item (list_at a l)))) view
    (λ a_inside.
    let lists : List (List ℕ) = walks nodes ends in
    let l_there : l < length ends = subst (λ k. l < k) links.one_each (list_is_there (held nodes lists) l item a_inside) in
    let below : item < length nodes = links.lawful.within l item a_inside in
    let is : e ≡ ends_at ends l = get_or_read ends l e l_there read (record { first = NONE; last = NONE }) in
    let is_node : node ≡ node_at nodes item = get_or_read nodes item node below read_node (record { next = NONE; previous = NONE }) in
    let here : JoinsItems (node_at nodes item).previous (node_at nodes item).next nodes (ends_at ends l) n1 e1 =
    subst (λ v. JoinsItems v.previous v.next nodes (ends_at ends l) n1 e1) is_node
    (subst (λ f. JoinsItems node.previous node.next nodes f n1 e1) is
    (subst (λ ns. JoinsItems node.previous node.next ns e n1 e1) same1 join)) in
    are_links (set n1 item loose) (set ends l e1) (set lists l (without item (list_at (held nodes lists) l))) (length nodes) seen
    (unlinked nodes ends lists l item n1 e1 loose links a_inside here itself) (length-set n1 item loose ∙ here.as_many)
    (ap (λ ns. set ns item loose) (refilled-is n n1 nodes (join.as_many ∙ long1))))
    inside
