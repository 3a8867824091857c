-- Lists of three items, and nodes that hold them.
use Rattle.std.specs.Prelude.{ℕ, List, [], ◌∷◌}
use Rattle.index_lists.specs.declared.nodes.Ends.{Ends}
use Rattle.index_lists.specs.declared.nodes.Node.{Node}
use Rattle.index_lists.specs.declared.nodes.TheConstants.{NONE}
use Rattle.index_lists.specs.LinkedLists.{LinkedLists}

abbrev pub lists_of : List (List ℕ) → LinkedLists
lists_of lists = record { items = 3; lists = lists }

abbrev pub two_lists : LinkedLists
two_lists = lists_of ((0 ∷ 1 ∷ []) ∷ (2 ∷ []) ∷ [])

-- items 0 and 1 stand in one list, and 2 in another
abbrev pub three_nodes : List Node
three_nodes =
    record { next = 1; previous = NONE } ∷ record { next = NONE; previous = 0 } ∷ record { next = NONE; previous = NONE } ∷ []

abbrev pub three_ends : List Ends
three_ends = record { first = 0; last = 1 } ∷ record { first = NONE; last = NONE } ∷ record { first = 2; last = 2 } ∷ []
