use Rattle.std.proofs.Common.{◌-◌, ◌≤◌, length, vec_len}
use Rattle.merge_tree.proofs.InputPieces.{HasRead}
use Rattle.merge_tree.proofs.tree_input.read_up_to.Given as goal

abbrev pub invariant-loop-piece : goal.invariant-loop-piece
invariant-loop-piece g l = record {
  so_far : HasRead l.bytes.items (g.D.Desk.state l.initial.desk) (g.D.Desk.state l.desk);
  most : length l.bytes.items ≤ l.most;
}

abbrev pub decreases-loop-piece : goal.decreases-loop-piece
decreases-loop-piece g l = l.most - vec_len l.bytes
