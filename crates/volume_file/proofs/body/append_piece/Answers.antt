use Rattle.std.proofs.Common.{◌∙◌, arith}
use Rattle.volume_file.proofs.BodyPieces.{appends_piece}
use Rattle.volume_file.proofs.body.append_piece.Goals as goal

pub returns : goal.returns
returns g c =
    appends_piece c.args.bytes.now.items _ _ _ _ _ c.len-start.result _ c.in_ok-got.got _ _ _ (omega arith)
    (c.deref_mut.ensures.value ∙ c.in_ok-resize.ensures.items) (c.deref_mut.ensures.len ∙ c.in_ok-resize.ensures.len)
    c.in_ok-resize.ensures.len c.fill.auto.into c.in_ok-got.ensures
