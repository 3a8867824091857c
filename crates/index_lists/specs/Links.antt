-- What it is for vectors of nodes and ends to hold linked lists.
use Rattle.std.specs.Prelude.{◌≡◌, ◌≢◌, ℕ, zero, suc, ◌<◌, ◌≤◌, ◌==◌, List, [], ◌∷◌, length, map, slice_index_or, if◌then◌else◌}
use Rattle.index_lists.specs.declared.nodes.Ends.{Ends}
use Rattle.index_lists.specs.declared.nodes.Node.{Node}
use Rattle.index_lists.specs.declared.nodes.TheConstants.{NONE}
use Rattle.index_lists.specs.LinkedLists.{LinkedLists, AreLists, IsLinked, list_at}

abbrev pub node_at : List Node → ℕ → Node
node_at nodes x = slice_index_or nodes x (record { next = NONE; previous = NONE })

abbrev pub ends_at : List Ends → ℕ → Ends
ends_at ends l = slice_index_or ends l (record { first = NONE; last = NONE })

-- what comes after an item in the list with these ends; after its border, NONE, the first item
unfoldable pub next_from : List Node → Ends → ℕ → ℕ
next_from nodes ends x = if x == NONE then ends.first else (node_at nodes x).next

-- what comes before an item in the list with these ends; before its border, NONE, the last item
unfoldable pub previous_from : List Node → Ends → ℕ → ℕ
previous_from nodes ends x = if x == NONE then ends.last else (node_at nodes x).previous

-- what comes after and before an item
pub record Neighbours : Type 0 where
  pub next : ℕ → ℕ
  pub previous : ℕ → ℕ

abbrev pub neighbours : List Node → Ends → Neighbours
neighbours nodes ends = record { next = next_from nodes ends; previous = previous_from nodes ends }

-- y is the one after x, and x the one before y
pub record Adjoins (s : Neighbours) (x y : ℕ) : Type 0 where
  pub on : s.next x ≡ y
  pub back : s.previous y ≡ x

-- from x one comes to y along these items, and back
abbrev pub RunsTo : Neighbours → ℕ → List ℕ → ℕ → Type 0
RunsTo s x [] y = Adjoins s x y
RunsTo s x (z ∷ zs) y = Adjoins s x z × RunsTo s z zs y

-- the list with these ends has these items
abbrev pub HasItems : List Node → Ends → List ℕ → Type 0
HasItems nodes ends xs = RunsTo (neighbours nodes ends) NONE xs NONE

-- as many items as there are nodes, and these lists of them
abbrev pub held : List Node → List (List ℕ) → LinkedLists
held nodes lists = record { items = length nodes; lists = lists }

-- These nodes and ends hold these lists. An item in none of them comes after itself.
pub record Holds (nodes : List Node) (ends : List Ends) (lists : List (List ℕ)) : Type 0 where
  pub few : length nodes ≤ NONE
  pub one_each : length lists ≡ length ends
  pub lawful : AreLists (held nodes lists)
  pub linked : (l : ℕ) → l < length ends → HasItems nodes (ends_at ends l) (list_at (held nodes lists) l)
  pub loose : (x : ℕ) → x < length nodes → ¬ IsLinked (held nodes lists) x → (node_at nodes x).next ≡ x

-- the items from x on, at most so many
unfoldable pub walk : List Node → ℕ → ℕ → List ℕ
walk nodes zero x = []
walk nodes (suc k) x = if x == NONE then [] else x ∷ walk nodes k (node_at nodes x).next

-- the lists that one walks from each first item
unfoldable pub walks : List Node → List Ends → List (List ℕ)
walks nodes ends = map (λ e. walk nodes (length nodes) e.first) ends

-- the items and lists that nodes and ends hold
abbrev pub linked_lists : List Node → List Ends → LinkedLists
linked_lists nodes ends = held nodes (walks nodes ends)

abbrev pub AreLinks : List Node → List Ends → Type 0
AreLinks nodes ends = Holds nodes ends (walks nodes ends)

-- One item was made to follow another in the list with these ends. All other items have the same neighbours.
pub record JoinsItems (before after : ℕ) (nodes : List Node) (ends : Ends) (new_nodes : List Node) (new_ends : Ends) : Type 0 where
  pub as_many : length new_nodes ≡ length nodes
  pub adjoin : Adjoins (neighbours new_nodes new_ends) before after
  pub next_stays : (x : ℕ) → x ≢ before → next_from new_nodes new_ends x ≡ next_from nodes ends x
  pub previous_stays : (x : ℕ) → x ≢ after → previous_from new_nodes new_ends x ≡ previous_from nodes ends x
