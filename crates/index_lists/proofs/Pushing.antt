-- An item is added at the front of a list.
use Rattle.std.proofs.Common.{◌≡◌, ◌≢◌, ℕ, ◌<◌, ◌≤◌, List, ◌∷◌, length, get_or, set, refl, sym, ◌∙◌, subst, inl, inr, arith}
use Rattle.std.specs.Prelude.{Contains}
use Rattle.std.proofs.lemmas.List.{get_or_read}
use Rattle.agglo_model.proofs.Members.{contains_head, contains_tail, contains_cases}
use Rattle.index_lists.specs.declared.nodes.Ends.{Ends}
use Rattle.index_lists.specs.declared.nodes.Node.{Node}
use Rattle.index_lists.specs.declared.nodes.TheConstants.{NONE}
use Rattle.index_lists.specs.LinkedLists.{LinkedLists, AreLists, IsLinked, list_at, with_list}
use Rattle.index_lists.specs.Links.{AreLinks, Holds, JoinsItems, Neighbours, RunsTo, ends_at, held, linked_lists, neighbours, node_at, walks}
use Rattle.index_lists.proofs.ItemLists.{once_cons}
use Rattle.index_lists.proofs.LawfulLists.{change_list, in_changed, linked_still}
use Rattle.index_lists.proofs.Runs.{runs_from}
use Rattle.index_lists.proofs.Walking.{is_item, next_of_border}
use Rattle.index_lists.proofs.Holding.{are_links, change_held, first_cases, items_stay, next_at, previous_at, refilled, refilled-is}

pub pushed : (nodes : List Node) (ends : List Ends) (lists : List (List ℕ)) (l item : ℕ) (nodes1 : List Node) (e1 : Ends) (nodes2 : List Node) (e2 : Ends)
    → Holds nodes ends lists → l < length lists → item < length nodes → ¬ IsLinked (held nodes lists) item
    → JoinsItems item (ends_at ends l).first nodes (ends_at ends l) nodes1 e1 → JoinsItems NONE item nodes1 e1 nodes2 e2
    → Holds nodes2 (set ends l e2) (set lists l (item ∷ list_at (held nodes lists) l))
pushed nodes ends lists l item nodes1 e1 nodes2 e2 holds there below free to_first join2 =
    let all : LinkedLists = held nodes lists in
    let xs : List ℕ = list_at all l in
    let e : Ends = ends_at ends l in
    let s : Neighbours = neighbours nodes e in
    let t : Neighbours = neighbours nodes2 e2 in
    let few : length nodes ≤ 4294967295 = holds.few in
    let is_item_too : item ≢ NONE = λ (same : item ≡ 4294967295). omega arith in
    let there_too : l < length ends = omega (arith, holds.one_each) in
    let many : length nodes2 ≡ length nodes = join2.as_many ∙ to_first.as_many in
    let join1 : JoinsItems item (s.next NONE) nodes e nodes1 e1 =
    subst (λ v. JoinsItems item v nodes e nodes1 e1) (sym (next_of_border nodes e)) to_first in
    let run : RunsTo s NONE xs NONE = holds.linked l there_too in
    let absent : ((x : ℕ) → Contains xs x → x ≢ item) = λ x inside same. free (l, subst (λ w. Contains xs w) same inside) in
    let not_first : item ≢ s.next NONE = λ same. elim (first_cases s NONE xs NONE run) [
      | inl border ↦ is_item_too (same ∙ border)
      | inr inside ↦ absent (s.next NONE) inside (sym same)
    ] in
    let items : ((x : ℕ) → Contains xs x → x ≢ NONE) = is_item nodes ends lists holds l in
    let rest : RunsTo t item xs NONE =
    runs_from s t NONE item xs NONE (holds.lawful.once l) (λ inside. items NONE inside refl)
    (join2.next_stays item is_item_too ∙ join1.adjoin.on) (join2.previous_stays (s.next NONE) (λ same. not_first (sym same)) ∙ join1.adjoin.back)
    (λ w inside. join2.next_stays w (items w inside) ∙ join1.next_stays w (absent w inside))
    (λ w inside other. join2.previous_stays w (absent w inside) ∙ join1.previous_stays w other)
    (λ other. join2.previous_stays NONE (λ same. is_item_too (sym same)) ∙ join1.previous_stays NONE other) run in
    let next_stays : ((x : ℕ) → x ≢ NONE → x ≢ item → (node_at nodes2 x).next ≡ (node_at nodes x).next) =
    λ x inner other. next_at NONE item nodes1 e1 nodes2 e2 join2 x inner inner ∙ next_at item (s.next NONE) nodes e nodes1 e1 join1 x inner other in
    let lawful : AreLists (with_list all l (item ∷ xs)) =
    change_list all l (item ∷ xs) holds.lawful there
    (once_cons item xs (λ y inside same. absent y inside (sym same)) (holds.lawful.once l))
    (λ x inside. elim (contains_cases item x xs inside) [
      | inl same ↦ subst (λ w. w < length nodes) same below
      | inr later ↦ holds.lawful.within l x later
    ])
    (λ m x other inside elsewhere. elim (contains_cases item x xs inside) [
      | inl same ↦ free (m, subst (λ w. Contains (list_at all m) w) (sym same) elsewhere)
      | inr later ↦ other (holds.lawful.apart m l x elsewhere later)
    ]) in
    change_held nodes2 ends lists l e2 (item ∷ xs) (subst (λ n. n ≤ NONE) (sym many) holds.few) holds.one_each there_too
    (subst (λ n. AreLists (record { items = n; lists = set lists l (item ∷ xs) })) (sym many) lawful) (join2.adjoin, rest)
    (λ m other inside.
    let ys : List ℕ = list_at all m in
    let inner : ((x : ℕ) → Contains ys x → x ≢ NONE) = is_item nodes ends lists holds m in
    let unlike : ((x : ℕ) → Contains ys x → x ≢ item) = λ x h same. free (m, subst (λ w. Contains ys w) same h) in
    items_stay nodes nodes2 (ends_at ends m) ys inner (λ x h. next_stays x (inner x h) (unlike x h))
    (λ x h.
    let not_joined : x ≢ s.next NONE = λ same. elim (first_cases s NONE xs NONE run) [
      | inl border ↦ inner x h (same ∙ border)
      | inr first ↦ other (holds.lawful.apart m l x h (subst (λ w. Contains xs w) (sym same) first))
    ] in
    previous_at NONE item nodes1 e1 nodes2 e2 join2 x (inner x h) (unlike x h)
    ∙ previous_at item (s.next NONE) nodes e nodes1 e1 join1 x (inner x h) not_joined)
    (holds.linked m inside))
    (λ x inside loose.
    let within : x < length nodes = omega arith in
    let inner : x ≢ NONE = λ (same : x ≡ 4294967295). omega arith in
    let other : x ≢ item = λ same. loose (l, in_changed all l (item ∷ xs) x there (subst (λ w. Contains (item ∷ xs) w) (sym same) (contains_head item xs))) in
    next_stays x inner other ∙ holds.loose x within (λ linked. loose (linked_still all l (item ∷ xs) x there (contains_tail item x xs) linked)))

-- what the call leaves, from what it did step by step
pub pushed_links : (nodes : List Node) (ends : List Ends) (all : LinkedLists) (l item n : ℕ) (e : Ends) (m1 n1 : List Node) (e1 : Ends)
    (m2 n2 : List Node) (e2 : Ends) → linked_lists nodes ends ≡ all → AreLinks nodes ends → l < length all.lists
    → item < all.items → ¬ IsLinked all item → e ≡ get_or ends l e → m1 ≡ nodes → length m1 ≡ n → JoinsItems item e.first m1 e n1 e1
    → m2 ≡ refilled n n1 nodes → length m2 ≡ n → JoinsItems NONE item m2 e1 n2 e2
    → AreLinks (refilled n n2 (refilled n n1 nodes)) (set ends l e2)
    × (linked_lists (refilled n n2 (refilled n n1 nodes)) (set ends l e2) ≡ with_list all l (item ∷ list_at all l))
pushed_links nodes ends all l item n e m1 n1 e1 m2 n2 e2 view links there below free read same1 long1 join1 same2 long2 join2 =
    let seen : List Node = refilled n n2 (refilled n n1 nodes) in
    subst (λ (a : LinkedLists). l < length a.lists → item < a.items → ¬ IsLinked a item
    → AreLinks seen (set ends l e2) × (linked_lists seen (set ends l e2) ≡ with_list a l (item ∷ list_at a l))) view
    (λ a_there a_below a_free.
    let l_there : l < length ends = subst (λ k. l < k) links.one_each a_there in
    let is : e ≡ ends_at ends l = get_or_read ends l e l_there read (record { first = NONE; last = NONE }) in
    let first_join : JoinsItems item (ends_at ends l).first nodes (ends_at ends l) n1 e1 =
    subst (λ f. JoinsItems item f.first nodes f n1 e1) is (subst (λ ns. JoinsItems item e.first ns e n1 e1) same1 join1) in
    let after_first : m2 ≡ n1 = same2 ∙ refilled-is n n1 nodes (join1.as_many ∙ long1) in
    let second_join : JoinsItems NONE item n1 e1 n2 e2 = subst (λ ns. JoinsItems NONE item ns e1 n2 e2) after_first join2 in
    are_links n2 (set ends l e2) (set (walks nodes ends) l (item ∷ list_at (held nodes (walks nodes ends)) l)) (length nodes) seen
    (pushed nodes ends (walks nodes ends) l item n1 e1 n2 e2 links a_there a_below a_free first_join second_join)
    (second_join.as_many ∙ first_join.as_many) (refilled-is n n2 (refilled n n1 nodes) (join2.as_many ∙ long2)))
    there below free
