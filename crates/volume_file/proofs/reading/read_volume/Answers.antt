use Rattle.std.proofs.lemmas.Result.{err_from_is_err_and, MatchResult-weaker}
use Rattle.volume_file.proofs.Whole.{no_head, no_body_after, reads_volume, open_after}
use Rattle.volume_file.proofs.reading.read_volume.Goals as goal

pub returns-in_err-head : goal.returns-in_err-head
returns-in_err-head g c =
    let p = err_from_is_err_and c.from_residual.result c.from_residual.ensures.1 in
    rw (p.1, p.2) (no_head _ _ _ c.in_err-head.ensures)

pub read_body-requires : goal.read_body-requires
read_body-requires g c = open_after _ _ _ c.in_ok-head.ensures c.requires

pub returns : goal.returns
returns g c =
    MatchResult-weaker c.read_body.result c.read_body.ensures
    (λ volume h. reads_volume c.in_ok-head.head.dims volume _ _ _ c.in_ok-head.ensures h)
    (λ fault f. no_body_after c.in_ok-head.head.dims fault _ _ _ c.in_ok-head.ensures f)
