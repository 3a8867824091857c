use Rattle.std.proofs.Common.{◌≡◌, ◌+◌, ◌*◌, ◌/◌, ◌≤◌, arith}
use Rattle.std.proofs.lemmas.Result.{err_from_is_err_and}
use Rattle.volume_file.proofs.Lanes.{turned}
use Rattle.volume_file.proofs.GeneratedPuts.{turn_put, turn_fails, rest_put}
use Rattle.volume_file.proofs.generating.put_generated.Goals as goal

pub returns-in_err-put : goal.returns-in_err-put
returns-in_err-put g c =
    let p = err_from_is_err_and c.from_residual.result c.from_residual.ensures.1 in
    let bytes = c.fill.ensures.bytes c.args.start (65536 * c.loop.counter) c.loop.invariant.1 in
    let inside : 65536 * (c.loop.counter + 1) ≤ c.args.count = omega (arith, c.loop-test.true) in
    rw p.1 (turn_fails c.args.start c.args.count c.loop.counter c.fill.new.bytes _ _ _ _ _ _ inside bytes c.loop.invariant.0 c.in_err-put.ensures)

pub loop-preserved : goal.loop-preserved
loop-preserved g c =
    let bytes = c.fill.ensures.bytes c.args.start (65536 * c.loop.counter) c.loop.invariant.1 in (
      turn_put c.args.start c.loop.counter c.fill.new.bytes _ _ _ _ _ _ bytes c.loop.invariant.0 c.in_ok-put.ensures,
      turned c.args.start c.loop.counter _ (c.fill.ensures.place c.args.start (65536 * c.loop.counter) c.loop.invariant.1),
    )

pub returns : goal.returns
returns g c =
    let turns : c.loop.counter ≡ c.args.count / 65536 = omega (arith, c.loop-test.false, c.loop.auto.counter-end) in
    let bytes = c.fill-2.ensures.bytes c.args.start (65536 * c.loop.counter) c.loop.invariant.1 in
    rest_put c.put-2.result c.args.start c.args.count c.loop.counter c.fill-2.new.bytes _ _ _ _ _ _ turns bytes c.loop.invariant.0 c.put-2.ensures
