use Rattle.std.proofs.Common.{ap, ◌∙◌, arith}
use Rattle.std.proofs.lemmas.Result.{err_from_is_err_and}
use Rattle.seg_io.specs.Desk.{DeskState}
use Rattle.seg_io.proofs.Bytes.{bytes_fit}
use Rattle.seg_io.proofs.Filling.{nothing_filled, filled_more, filled_whole, filled_to_end, fails_after}
use Rattle.seg_io.proofs.pieces.fill.Goals as goal

pub loop-filled-init : goal.loop-filled-init
loop-filled-init g c = nothing_filled _ _

pub read-requires-clause-open : goal.read-requires-clause-open
read-requires-clause-open g c = ap (λ (s : DeskState). s.has_input) c.loop-filled.invariant.after ∙ c.requires

pub returns-in_err-got : goal.returns-in_err-got
returns-in_err-got g c =
    let p = err_from_is_err_and c.from_residual.result c.from_residual.ensures.1 in
    rw p.1 (fails_after _ _ _ _ _ _ c.loop-filled.auto.into c.loop-filled-test.true c.loop-filled.invariant c.in_err-got.ensures)

pub loop-filled-preserved : goal.loop-filled-preserved
loop-filled-preserved g c =
    filled_more _ _ _ _ _ _ _ c.loop-filled.invariant c.in_ok-got.ensures c.read.auto.into (bytes_fit _ (λ k. let fits = c.type_inv.into k in omega arith))

pub returns-after-loop-filled : goal.returns-after-loop-filled
returns-after-loop-filled g c =
    filled_whole _ _ _ _ _ c.loop-filled.auto.into c.loop-filled-test.false c.loop-filled.invariant

pub returns-then-got-eq0 : goal.returns-then-got-eq0
returns-then-got-eq0 g c =
    filled_to_end _ _ _ _ _ _ _ _ c.if-got-eq0.true c.loop-filled.auto.into c.loop-filled.invariant c.in_ok-got.ensures c.read.auto.into (bytes_fit _ (λ k. let fits = c.type_inv.into k in omega arith))
