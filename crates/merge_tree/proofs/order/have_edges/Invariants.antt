use Rattle.std.specs.Prelude.{All, take}
use Rattle.merge_tree.specs.Order.{HasEdges}
use Rattle.merge_tree.proofs.order.have_edges.Given as goal

abbrev pub invariant-loop-merge : goal.invariant-loop-merge
invariant-loop-merge l = All HasEdges (take l.merge-index l.merges)
