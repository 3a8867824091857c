-- What is read from nodes and ends is an item that there is, or the border.
use Rattle.std.proofs.Common.{◌≡◌, ◌≢◌, ℕ, ◌<◌, List, length, get_or, sym, subst}
use Rattle.std.specs.Prelude.{Contains}
use Rattle.std.proofs.lemmas.List.{get_or_read}
use Rattle.index_lists.specs.declared.nodes.Ends.{Ends}
use Rattle.index_lists.specs.declared.nodes.Node.{Node}
use Rattle.index_lists.specs.declared.nodes.TheConstants.{NONE}
use Rattle.index_lists.specs.LinkedLists.{LinkedLists, list_at}
use Rattle.index_lists.specs.Links.{AreLinks, linked_lists, walks}
use Rattle.index_lists.proofs.Holding.{first_within, last_within, next_within, previous_within}

pub first_below : (nodes : List Node) (ends : List Ends) (all : LinkedLists) (l : ℕ) (e : Ends) (m : List Node) → linked_lists nodes ends ≡ all
    → AreLinks nodes ends → l < length all.lists → e ≡ get_or ends l e → m ≡ nodes → e.first ≢ NONE → e.first < length m
first_below nodes ends all l e m view links there read same =
    let l_there : l < length ends = subst (λ k. l < k) links.one_each (subst (λ (a : LinkedLists). l < length a.lists) (sym view) there) in
    subst (λ (f : Ends). f.first ≢ NONE → f.first < length m) (sym (get_or_read ends l e l_there read (record { first = NONE; last = NONE })))
    (λ item. subst (λ ns. (get_or ends l (record { first = NONE; last = NONE })).first < length ns) (sym same)
    (first_within nodes ends (walks nodes ends) links l l_there item))

pub last_below : (nodes : List Node) (ends : List Ends) (all : LinkedLists) (l : ℕ) (e : Ends) (m : List Node) → linked_lists nodes ends ≡ all
    → AreLinks nodes ends → l < length all.lists → e ≡ get_or ends l e → m ≡ nodes → e.last ≢ NONE → e.last < length m
last_below nodes ends all l e m view links there read same =
    let l_there : l < length ends = subst (λ k. l < k) links.one_each (subst (λ (a : LinkedLists). l < length a.lists) (sym view) there) in
    subst (λ (f : Ends). f.last ≢ NONE → f.last < length m) (sym (get_or_read ends l e l_there read (record { first = NONE; last = NONE })))
    (λ item. subst (λ ns. (get_or ends l (record { first = NONE; last = NONE })).last < length ns) (sym same)
    (last_within nodes ends (walks nodes ends) links l l_there item))

pub item_below : (nodes : List Node) (ends : List Ends) (all : LinkedLists) (l x : ℕ) → linked_lists nodes ends ≡ all → AreLinks nodes ends
    → Contains (list_at all l) x → x < length nodes
item_below nodes ends all l x view links inside =
    links.lawful.within l x (subst (λ (a : LinkedLists). Contains (list_at a l) x) (sym view) inside)

pub next_below : (nodes : List Node) (ends : List Ends) (all : LinkedLists) (l x : ℕ) (node : Node) (m : List Node) → linked_lists nodes ends ≡ all
    → AreLinks nodes ends → Contains (list_at all l) x → node ≡ get_or nodes x node → m ≡ nodes → node.next ≢ NONE → node.next < length m
next_below nodes ends all l x node m view links inside read same =
    let default : Node = record { next = NONE; previous = NONE } in
    let is : node ≡ get_or nodes x default = get_or_read nodes x node (item_below nodes ends all l x view links inside) read default in
    subst (λ (n : Node). n.next ≢ NONE → n.next < length m) (sym is)
    (λ item. subst (λ ns. (get_or nodes x default).next < length ns) (sym same)
    (next_within nodes ends (walks nodes ends) links l x (subst (λ (a : LinkedLists). Contains (list_at a l) x) (sym view) inside) item))

pub previous_below : (nodes : List Node) (ends : List Ends) (all : LinkedLists) (l x : ℕ) (node : Node) (m : List Node) → linked_lists nodes ends ≡ all
    → AreLinks nodes ends → Contains (list_at all l) x → node ≡ get_or nodes x node → m ≡ nodes → node.previous ≢ NONE → node.previous < length m
previous_below nodes ends all l x node m view links inside read same =
    let default : Node = record { next = NONE; previous = NONE } in
    let is : node ≡ get_or nodes x default = get_or_read nodes x node (item_below nodes ends all l x view links inside) read default in
    subst (λ (n : Node). n.previous ≢ NONE → n.previous < length m) (sym is)
    (λ item. subst (λ ns. (get_or nodes x default).previous < length ns) (sym same)
    (previous_within nodes ends (walks nodes ends) links l x (subst (λ (a : LinkedLists). Contains (list_at a l) x) (sym view) inside) item))
