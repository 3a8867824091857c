use Rattle.std.proofs.Common.{◌-◌, drop, arith, length, length-take, length-drop}
use Rattle.std.proofs.lemmas.Result.{err_from_is_err_and}
use Rattle.seg_io.proofs.Piecing.{put_turn, put_turn_fails}
use Rattle.seg_io.proofs.piecer.Piecer.put.Goals as goal

pub returns-in_err-taken : goal.returns-in_err-taken
returns-in_err-taken g c =
    let p = err_from_is_err_and c.from_residual.result c.from_residual.ensures.1 in
    rw p.1 (put_turn_fails _ _ _ _ _ _ _ _ c.loop-taken.invariant.so_far c.in_err-taken.ensures)

pub loop-taken-preserved : goal.loop-taken-preserved
loop-taken-preserved g c =
    let e = c.in_ok-taken.ensures in
    record {
      room = omega (arith, e.1, length-take (length c.args.bytes.now - c.loop-taken.taken) (drop c.loop-taken.taken c.args.bytes.now), length-drop c.loop-taken.taken c.args.bytes.now);
      so_far = put_turn _ _ _ _ _ _ _ _ _ c.loop-taken.invariant.so_far e.2;
    }
