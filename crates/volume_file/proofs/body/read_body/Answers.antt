use Rattle.std.proofs.lemmas.Result.{err_from_is_err_and}
use Rattle.volume_file.proofs.BodyPieces.{no_body, no_more, trailing, reads_body}
use Rattle.volume_file.proofs.body.read_body.Goals as goal

pub returns-in_err-body : goal.returns-in_err-body
returns-in_err-body g c =
    let p = err_from_is_err_and c.from_residual.result c.from_residual.ensures.1 in
    rw (p.1, p.2) (no_body c.body_len-length.result c.args.head.dims _ _ _ c.body_len-length.ensures.value c.in_err-body.ensures)

pub returns-in_err-has_more : goal.returns-in_err-has_more
returns-in_err-has_more g c =
    let p = err_from_is_err_and c.from_residual-in_err-has_more.result c.from_residual-in_err-has_more.ensures.1 in
    rw (p.1, p.2) (no_more c.body_len-length.result c.args.head.dims _ _ _ _ c.body_len-length.ensures.value c.in_ok-body.ensures c.in_err-has_more.ensures)

pub returns-then-branch : goal.returns-then-branch
returns-then-branch g c =
    trailing c.body_len-length.result c.args.head.dims _ _ _ _ _ c.body_len-length.ensures.value c.if-branch.true c.in_ok-body.ensures c.in_ok-has_more.ensures

pub returns : goal.returns
returns g c =
    reads_body c.body_len-length.result _ c.of.result c.args.head.dims _ _ _ _ c.body_len-length.ensures.value c.if-branch.false c.of.ensures c.in_ok-body.ensures c.in_ok-has_more.ensures
