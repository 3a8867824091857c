use Rattle.std.proofs.Common.{ap, length, arith}
use Rattle.std.proofs.lemmas.Result.{err_from_is_err_and}
use Rattle.volume_file.proofs.BodyPieces.{nothing_read, still_open, read_more, too_few, no_piece, all_read}
use Rattle.volume_file.proofs.body.read_bytes.Goals as goal

pub loop-bytes-init : goal.loop-bytes-init
loop-bytes-init g c = (nothing_read _ _ c.in_ok-bytes.ensures.items, omega (arith, ap length c.in_ok-bytes.ensures.items))

pub append_piece-requires-clause-open : goal.append_piece-requires-clause-open
append_piece-requires-clause-open g c = still_open _ _ _ c.loop-bytes.invariant.0 c.requires.open

pub returns-in_err-got : goal.returns-in_err-got
returns-in_err-got g c =
    let p = err_from_is_err_and c.from_residual-in_err-got.result c.from_residual-in_err-got.ensures.1 in
    rw (p.1, p.2) (no_piece c.args.length _ _ _ _ _ _ (omega arith) c.loop-bytes.invariant.0 c.in_err-got.ensures)

pub returns-then-got-count : goal.returns-then-got-count
returns-then-got-count g c =
    too_few c.in_ok-got.got _ _ _ _ _ _ _ _ (omega arith) c.if-got-count.true (omega arith) c.loop-bytes.invariant.0 c.in_ok-got.ensures

pub loop-bytes-smaller : goal.loop-bytes-smaller
loop-bytes-smaller g c = omega (arith, c.in_ok-got.ensures.counted)

pub loop-bytes-preserved : goal.loop-bytes-preserved
loop-bytes-preserved g c =
    (read_more c.in_ok-got.got _ _ _ _ _ _ c.if-got-count.false c.loop-bytes.invariant.0 c.in_ok-got.ensures, omega (arith, c.in_ok-got.ensures.counted))

pub returns : goal.returns
returns g c = all_read _ _ _ _ (omega arith) c.loop-bytes.invariant.0
