use Rattle.std.proofs.Common.{◌≡◌, [], ◌++◌, ap, subst, ◌∙◌}
use Rattle.std.proofs.lemmas.Result.{err_from_is_err_and}
use Rattle.agglo_model.specs.VolumeFile.{volume_header}
use Rattle.seg_io.specs.Piecing.{Puts, FailsToPut}
use Rattle.seg_io.proofs.Piecing.{Puts-none, Puts-more, FailsToPut-sooner, put_fails, finish_all}
use Rattle.volume_file.proofs.writing.write_volume.Goals as goal

pub returns-in_err-put : goal.returns-in_err-put
returns-in_err-put g c =
    let p = err_from_is_err_and c.from_residual.result c.from_residual.ensures.1 in
    let head : c.header.result ≡ volume_header c.args.volume.now.axes = c.header.ensures ∙ ap volume_header c.dims.ensures.value in
    rw p.1 (put_fails c.args.port [] (volume_header c.args.volume.now.axes ++ c.args.volume.now.bytes)
    c.new-piecer.result c.new-piecer.result c.put.new.self
    (g.D.Desk.state c.args.desk.now) (g.D.Desk.state c.args.desk.now) (g.D.Desk.state c.put.new.desk) c.new-piecer.ensures (Puts-none _ _)
    (FailsToPut-sooner (volume_header c.args.volume.now.axes) c.args.volume.now.bytes _ _ _ _
    (subst (λ bytes. FailsToPut bytes c.new-piecer.result c.put.new.self (g.D.Desk.state c.args.desk.now) (g.D.Desk.state c.put.new.desk))
    head c.in_err-put.ensures)))

pub returns-in_err-put-2 : goal.returns-in_err-put-2
returns-in_err-put-2 g c =
    let p = err_from_is_err_and c.from_residual-in_err-put-2.result c.from_residual-in_err-put-2.ensures.1 in
    let head : c.header.result ≡ volume_header c.args.volume.now.axes = c.header.ensures ∙ ap volume_header c.dims.ensures.value in
    rw p.1 (put_fails c.args.port (volume_header c.args.volume.now.axes) c.args.volume.now.bytes
    c.new-piecer.result c.put.new.self c.put-2.new.self
    (g.D.Desk.state c.args.desk.now) (g.D.Desk.state c.put.new.desk) (g.D.Desk.state c.put-2.new.desk) c.new-piecer.ensures
    (subst (λ bytes. Puts bytes c.new-piecer.result c.put.new.self (g.D.Desk.state c.args.desk.now) (g.D.Desk.state c.put.new.desk))
    head c.in_ok-put.ensures)
    (subst (λ bytes. FailsToPut bytes c.put.new.self c.put-2.new.self (g.D.Desk.state c.put.new.desk) (g.D.Desk.state c.put-2.new.desk))
    c.bytes.ensures.value c.in_err-put-2.ensures))

pub returns : goal.returns
returns g c =
    let head : c.header.result ≡ volume_header c.args.volume.now.axes = c.header.ensures ∙ ap volume_header c.dims.ensures.value in
    finish_all c.finish.result c.args.port (volume_header c.args.volume.now.axes ++ c.args.volume.now.bytes)
    c.new-piecer.result c.put-2.new.self
    (g.D.Desk.state c.args.desk.now) (g.D.Desk.state c.put-2.new.desk) (g.D.Desk.state c.finish.new.desk) c.new-piecer.ensures
    (Puts-more (volume_header c.args.volume.now.axes) c.args.volume.now.bytes _ _ _ _ _ _
    (subst (λ bytes. Puts bytes c.new-piecer.result c.put.new.self (g.D.Desk.state c.args.desk.now) (g.D.Desk.state c.put.new.desk))
    head c.in_ok-put.ensures)
    (subst (λ bytes. Puts bytes c.put.new.self c.put-2.new.self (g.D.Desk.state c.put.new.desk) (g.D.Desk.state c.put-2.new.desk))
    c.bytes.ensures.value c.in_ok-put-2.ensures))
    c.finish.ensures
