use Rattle.std.proofs.Common.{◌≡◌, ℕ, List, ◌++◌, take}
use Rattle.std.specs.Prelude.{slice_get}
use Rattle.index_lists.specs.LinkedLists.{list_at}
use Rattle.segment_checks.proofs.tests.lists.has.Given as goal

abbrev pub invariant-loop-item : goal.invariant-loop-item
invariant-loop-item l =
    (rest : List ℕ) × (list_at l.lists l.list ≡ take l.item-index l.items ++ rest) × (l.next ≡ slice_get rest 0)
