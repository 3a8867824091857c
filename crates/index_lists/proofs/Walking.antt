-- A walk from the first item of a list along all of them.
use Rattle.std.proofs.Common.{◌≡◌, ◌≢◌, ℕ, zero, suc, ◌<◌, ◌≤◌, if◌then◌else◌, List, [], ◌∷◌, length, map, get_or, refl, sym, ap, ◌∙◌, subst, arith, eqb, ne_eqb}
use Rattle.std.specs.Prelude.{Contains}
use Rattle.std.proofs.lemmas.List.{ext_get_or, get_or-map, length-map}
use Rattle.std.proofs.lemmas.Bool.{eqb-true}
use Rattle.std.proofs.lemmas.Bool.Decides.{Decides-eqb}
use Rattle.std.proofs.lemmas.Map.Views.{Contains-from_any}
use Rattle.std.proofs.lemmas.Map.Made.{IsDistinct-from_AllPairs}
use Rattle.std.proofs.lemmas.Map.Steps.{length-le_from_distinct_below}
use Rattle.agglo_model.proofs.Members.{contains_head, contains_tail}
use Rattle.index_lists.specs.declared.nodes.Ends.{Ends}
use Rattle.index_lists.specs.declared.nodes.Node.{Node}
use Rattle.index_lists.specs.declared.nodes.TheConstants.{NONE}
use Rattle.index_lists.specs.LinkedLists.{list_at}
use Rattle.index_lists.specs.Links.{AreLinks, Holds, RunsTo, ends_at, held, linked_lists, neighbours, next_from, node_at, previous_from, walk, walks}
use Rattle.index_lists.proofs.ItemLists.{Once}

pub next_of_item : (nodes : List Node) (ends : Ends) (x : ℕ) → x ≢ NONE → next_from nodes ends x ≡ (node_at nodes x).next
unfolding next_from
next_of_item nodes ends x item = ap (λ b. if b then ends.first else (node_at nodes x).next) (ne_eqb x NONE item)

pub next_of_border : (nodes : List Node) (ends : Ends) → next_from nodes ends NONE ≡ ends.first
unfolding next_from
next_of_border nodes ends = refl

pub previous_of_item : (nodes : List Node) (ends : Ends) (x : ℕ) → x ≢ NONE → previous_from nodes ends x ≡ (node_at nodes x).previous
unfolding previous_from
previous_of_item nodes ends x item = ap (λ b. if b then ends.last else (node_at nodes x).previous) (ne_eqb x NONE item)

pub previous_of_border : (nodes : List Node) (ends : Ends) → previous_from nodes ends NONE ≡ ends.last
unfolding previous_from
previous_of_border nodes ends = refl

-- an item in one of the lists that are held is no border
pub is_item : (nodes : List Node) (ends : List Ends) (lists : List (List ℕ)) → Holds nodes ends lists → (l x : ℕ)
    → Contains (list_at (held nodes lists) l) x → x ≢ NONE
is_item nodes ends lists holds l x inside same =
    let below : x < length nodes = holds.lawful.within l x inside in
    let few : length nodes ≤ 4294967295 = holds.few in
    let is : x ≡ 4294967295 = same in
    omega arith

-- a walk that is long enough comes along all items of a run
walk_along : (nodes : List Node) (ends : Ends) (fuel x : ℕ) (xs : List ℕ) → length xs ≤ fuel → ((z : ℕ) → Contains xs z → z ≢ NONE)
    → RunsTo (neighbours nodes ends) x xs NONE → walk nodes fuel (next_from nodes ends x) ≡ xs
unfolding walk
walk_along nodes ends zero x [] enough items run = refl
walk_along nodes ends (suc k) x [] enough items run = subst (λ v. walk nodes (suc k) v ≡ []) (sym run.on) refl
walk_along nodes ends zero x (z ∷ zs) enough items run = absurd (omega arith)
walk_along nodes ends (suc k) x (z ∷ zs) enough items run =
    let item : z ≢ NONE = items z (contains_head z zs) in
    let rest : walk nodes k (node_at nodes z).next ≡ zs =
    subst (λ v. walk nodes k v ≡ zs) (next_of_item nodes ends z item)
    (walk_along nodes ends k z zs (omega arith) (λ w inside. items w (contains_tail z w zs inside)) run.1) in
    subst (λ v. walk nodes (suc k) v ≡ z ∷ zs) (sym run.0.on)
    (ap (λ b. if b then [] else z ∷ walk nodes k (node_at nodes z).next) (ne_eqb z NONE item) ∙ ap (λ l. z ∷ l) rest)

-- items below a number, of which none stands twice, are at most so many
few_items : (xs : List ℕ) (n : ℕ) → Once xs → ((x : ℕ) → Contains xs x → x < n) → length xs ≤ n
few_items xs n once within =
    length-le_from_distinct_below xs n (IsDistinct-from_AllPairs {eq = eqb} Decides-eqb xs once)
    (λ q found. within q (Contains-from_any {eq = eqb} eqb-true q xs found))

-- nodes and ends have the lists that they hold
pub walks-are : (nodes : List Node) (ends : List Ends) (lists : List (List ℕ)) → Holds nodes ends lists → walks nodes ends ≡ lists
unfolding walks
walks-are nodes ends lists holds =
    let along : Ends → List ℕ = λ e. walk nodes (length nodes) e.first in
    let as_many : length (map along ends) ≡ length ends = length-map ends along in
    ext_get_or [] (map along ends) lists (as_many ∙ sym holds.one_each) (λ l below.
    let there : l < length ends = omega arith in
    let xs : List ℕ = get_or lists l [] in
    get_or-map along ends l (record { first = NONE; last = NONE }) [] there
    ∙ ap (λ v. walk nodes (length nodes) v) (sym (next_of_border nodes (ends_at ends l)))
    ∙ walk_along nodes (ends_at ends l) (length nodes) NONE xs
    (few_items xs (length nodes) (holds.lawful.once l) (holds.lawful.within l)) (is_item nodes ends lists holds l) (holds.linked l there))

pub views-are : (nodes : List Node) (ends : List Ends) (lists : List (List ℕ)) → Holds nodes ends lists → linked_lists nodes ends ≡ held nodes lists
views-are nodes ends lists holds = ap (λ ls. held nodes ls) (walks-are nodes ends lists holds)

pub links-are : (nodes : List Node) (ends : List Ends) (lists : List (List ℕ)) → Holds nodes ends lists → AreLinks nodes ends
links-are nodes ends lists holds = subst (λ ls. Holds nodes ends ls) (sym (walks-are nodes ends lists holds)) holds
