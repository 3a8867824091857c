use Rattle.std.proofs.Common.{◌≡◌, ◌++◌, take}
use Rattle.std.specs.Prelude.{filter}
use Rattle.parent_join.specs.Across.{are_named}
use Rattle.parent_join.proofs.across.add_named.Given as goal

abbrev pub invariant-loop-edge : goal.invariant-loop-edge
invariant-loop-edge l = l.edges.items ≡ l.initial.edges.items ++ filter (are_named l.regions) (take l.edge-index l.across)
