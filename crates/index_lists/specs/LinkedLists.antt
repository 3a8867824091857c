-- Lists of numbered items, of which none stands in two places.
use Rattle.std.specs.Prelude.{◌≡◌, ◌≢◌, ℕ, ◌<◌, ◌==◌, not, List, [], ◌∷◌, ◌++◌, Option, AllPairs, Contains, filter, slice_get, slice_index_or, slice_set}

-- so many items, numbered from 0, and lists of some of them
pub record LinkedLists : Type 0 where
  pub items : ℕ
  pub lists : List (List ℕ)

-- the list of a number
abbrev pub list_at : LinkedLists → ℕ → List ℕ
list_at all l = slice_index_or all.lists l []

-- the same with other items in the list of this number
abbrev pub with_list : LinkedLists → ℕ → List ℕ → LinkedLists
with_list all l xs = record all { lists = slice_set all.lists l xs }

-- a list without an item
abbrev pub without : ℕ → List ℕ → List ℕ
without x xs = filter (λ y. not (y == x)) xs

-- the item stands in some list
abbrev pub IsLinked : LinkedLists → ℕ → Type 0
IsLinked all x = (l : ℕ) × Contains (list_at all l) x

-- wherever the item stands in the list, this is the one after it, and None where it is the last
abbrev pub IsNext : List ℕ → ℕ → Option ℕ → Type 0
IsNext xs x next = (before rest : List ℕ) → xs ≡ before ++ x ∷ rest → next ≡ slice_get rest 0

-- the lists have only items that there are, none twice, and none that another list has
pub record AreLists (all : LinkedLists) : Type 0 where
  pub within : (l x : ℕ) → Contains (list_at all l) x → x < all.items
  pub once : (l : ℕ) → AllPairs (λ x y. x ≢ y) (list_at all l)
  pub apart : (l m x : ℕ) → Contains (list_at all l) x → Contains (list_at all m) x → l ≡ m
