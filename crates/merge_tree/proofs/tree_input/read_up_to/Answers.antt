use Rattle.std.proofs.Common.{arith, length-take}
use Rattle.std.proofs.lemmas.Result.{err_from_is_err_and}
use Rattle.merge_tree.proofs.InputPieces.{read_more, no_piece}
use Rattle.merge_tree.proofs.tree_input.read_up_to.Goals as goal

pub returns-in_err-got : goal.returns-in_err-got
returns-in_err-got g c =
    let p = err_from_is_err_and c.from_residual.result c.from_residual.ensures.1 in
    rw (p.1, p.2) (no_piece _ _ _ _ _ _ _ (omega (arith, length-take c.min-count.result c.loop-piece.piece)) c.loop-piece.invariant.so_far c.in_err-got.ensures)

pub loop-piece-preserved : goal.loop-piece-preserved
loop-piece-preserved g c = record {
  so_far = read_more _ _ _ _ _ _ _ c.loop-piece.invariant.so_far c.in_ok-got.ensures;
  most = omega (arith, c.in_ok-got.ensures.counted, c.in_ok-got.ensures.room, length-take c.min-count.result c.loop-piece.piece);
}
