use Rattle.std.proofs.Common.{[], ◌++◌, map, subst}
use Rattle.std.specs.List.{range_with_len}
use Rattle.std.proofs.lemmas.Result.{err_from_is_err_and}
use Rattle.agglo_model.specs.Axes.{edge_count}
use Rattle.agglo_model.specs.Generated.{generated_byte}
use Rattle.agglo_model.specs.VolumeFile.{volume_header}
use Rattle.seg_io.specs.Piecing.{Puts, FailsToPut}
use Rattle.seg_io.proofs.Piecing.{Puts-none, Puts-more, FailsToPut-sooner, put_fails, finish_all}
use Rattle.volume_file.proofs.generating.write_generated.Goals as goal

pub returns-in_err-put : goal.returns-in_err-put
returns-in_err-put g c =
    let p = err_from_is_err_and c.from_residual.result c.from_residual.ensures.1 in
    let head = volume_header c.args.dims.now in
    let body = map (generated_byte c.args.start) (range_with_len 0 (edge_count c.args.dims.now)) in
    rw p.1 (put_fails c.args.port [] (head ++ body) c.new-piecer.result c.new-piecer.result c.put.new.self
    (g.D.Desk.state c.args.desk.now) (g.D.Desk.state c.args.desk.now) (g.D.Desk.state c.put.new.desk) c.new-piecer.ensures (Puts-none _ _)
    (FailsToPut-sooner head body _ _ _ _
    (subst (λ bytes. FailsToPut bytes c.new-piecer.result c.put.new.self (g.D.Desk.state c.args.desk.now) (g.D.Desk.state c.put.new.desk))
    c.header.ensures c.in_err-put.ensures)))

pub returns-in_err-put_generated : goal.returns-in_err-put_generated
returns-in_err-put_generated g c =
    let p = err_from_is_err_and c.from_residual-in_err-put_generated.result c.from_residual-in_err-put_generated.ensures.1 in
    let body = map (generated_byte c.args.start) (range_with_len 0 (edge_count c.args.dims.now)) in
    rw p.1 (put_fails c.args.port (volume_header c.args.dims.now) body
    c.new-piecer.result c.put.new.self c.put_generated.new.piecer
    (g.D.Desk.state c.args.desk.now) (g.D.Desk.state c.put.new.desk) (g.D.Desk.state c.put_generated.new.desk) c.new-piecer.ensures
    (subst (λ bytes. Puts bytes c.new-piecer.result c.put.new.self (g.D.Desk.state c.args.desk.now) (g.D.Desk.state c.put.new.desk))
    c.header.ensures c.in_ok-put.ensures)
    (subst (λ n. FailsToPut (map (generated_byte c.args.start) (range_with_len 0 n)) c.put.new.self c.put_generated.new.piecer (g.D.Desk.state c.put.new.desk) (g.D.Desk.state c.put_generated.new.desk))
    c.body_len.ensures.value c.in_err-put_generated.ensures))

pub returns : goal.returns
returns g c =
    let body = map (generated_byte c.args.start) (range_with_len 0 (edge_count c.args.dims.now)) in
    finish_all c.finish.result c.args.port (volume_header c.args.dims.now ++ body)
    c.new-piecer.result c.put_generated.new.piecer
    (g.D.Desk.state c.args.desk.now) (g.D.Desk.state c.put_generated.new.desk) (g.D.Desk.state c.finish.new.desk) c.new-piecer.ensures
    (Puts-more (volume_header c.args.dims.now) body _ _ _ _ _ _
    (subst (λ bytes. Puts bytes c.new-piecer.result c.put.new.self (g.D.Desk.state c.args.desk.now) (g.D.Desk.state c.put.new.desk))
    c.header.ensures c.in_ok-put.ensures)
    (subst (λ n. Puts (map (generated_byte c.args.start) (range_with_len 0 n)) c.put.new.self c.put_generated.new.piecer (g.D.Desk.state c.put.new.desk) (g.D.Desk.state c.put_generated.new.desk))
    c.body_len.ensures.value c.in_ok-put_generated.ensures))
    c.finish.ensures
