use Rattle.std.proofs.lemmas.Result.{err_from_is_err_and}
use Rattle.seg_io.proofs.Writing.{nothing_written, written_more, still_open, written_whole, fails_after}
use Rattle.seg_io.proofs.pieces.put_all.Goals as goal

pub loop-written-init : goal.loop-written-init
loop-written-init g c = nothing_written _ _ _

pub write_piece-requires-clause-open : goal.write_piece-requires-clause-open
write_piece-requires-clause-open g c = still_open _ _ _ _ _ c.loop-written.invariant c.requires

pub returns-in_err-written : goal.returns-in_err-written
returns-in_err-written g c =
    let p = err_from_is_err_and c.from_residual.result c.from_residual.ensures.1 in
    rw p.1 (fails_after _ _ _ _ _ _ c.loop-written.invariant c.in_err-written.ensures)

pub loop-written-preserved : goal.loop-written-preserved
loop-written-preserved g c = written_more _ _ _ _ _ _ _ _ c.loop-written.invariant c.in_ok-written.ensures

pub returns : goal.returns
returns g c = written_whole _ _ _ _ _ c.loop-written.invariant c.loop-written-test.false
