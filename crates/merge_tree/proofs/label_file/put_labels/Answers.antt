use Rattle.std.proofs.Common.{◌≡◌, [], ◌++◌, ap, subst, ◌∙◌}
use Rattle.std.specs.List.{flat_map}
use Rattle.std.proofs.lemmas.Result.{err_from_is_err_and}
use Rattle.agglo_model.specs.LabelFile.{label_header, u32_bytes}
use Rattle.seg_io.specs.Piecing.{Puts, FailsToPut}
use Rattle.seg_io.proofs.Piecing.{Puts-none, Puts-more, FailsToPut-sooner, put_fails, finish_all}
use Rattle.seg_io.specs.declared.port.Port.TheVariants.{Labels}
use Rattle.merge_tree.proofs.label_file.put_labels.Goals as goal

pub returns-in_err-put : goal.returns-in_err-put
returns-in_err-put g c =
    let p = err_from_is_err_and c.from_residual.result c.from_residual.ensures.1 in
    let head : c.header.result ≡ label_header c.args.labels.now.axes = c.header.ensures ∙ ap label_header c.dims.ensures.value in
    rw p.1 (put_fails Labels [] (label_header c.args.labels.now.axes ++ flat_map u32_bytes c.args.labels.now.labels)
    c.new-piecer.result c.new-piecer.result c.put.new.self
    (g.D.Desk.state c.args.desk.now) (g.D.Desk.state c.args.desk.now) (g.D.Desk.state c.put.new.desk) c.new-piecer.ensures (Puts-none _ _)
    (FailsToPut-sooner (label_header c.args.labels.now.axes) (flat_map u32_bytes c.args.labels.now.labels) _ _ _ _
    (subst (λ bytes. FailsToPut bytes c.new-piecer.result c.put.new.self (g.D.Desk.state c.args.desk.now) (g.D.Desk.state c.put.new.desk))
    head c.in_err-put.ensures)))

pub returns-in_err-put_list : goal.returns-in_err-put_list
returns-in_err-put_list g c =
    let p = err_from_is_err_and c.from_residual-in_err-put_list.result c.from_residual-in_err-put_list.ensures.1 in
    let head : c.header.result ≡ label_header c.args.labels.now.axes = c.header.ensures ∙ ap label_header c.dims.ensures.value in
    let rest = ap (flat_map u32_bytes) c.list.ensures.value in
    rw p.1 (put_fails Labels (label_header c.args.labels.now.axes) (flat_map u32_bytes c.args.labels.now.labels)
    c.new-piecer.result c.put.new.self c.put_list.new.piecer
    (g.D.Desk.state c.args.desk.now) (g.D.Desk.state c.put.new.desk) (g.D.Desk.state c.put_list.new.desk) c.new-piecer.ensures
    (subst (λ bytes. Puts bytes c.new-piecer.result c.put.new.self (g.D.Desk.state c.args.desk.now) (g.D.Desk.state c.put.new.desk))
    head c.in_ok-put.ensures)
    (subst (λ bytes. FailsToPut bytes c.put.new.self c.put_list.new.piecer (g.D.Desk.state c.put.new.desk) (g.D.Desk.state c.put_list.new.desk))
    rest c.in_err-put_list.ensures))

pub returns : goal.returns
returns g c =
    let head : c.header.result ≡ label_header c.args.labels.now.axes = c.header.ensures ∙ ap label_header c.dims.ensures.value in
    let rest = ap (flat_map u32_bytes) c.list.ensures.value in
    finish_all c.finish.result Labels (label_header c.args.labels.now.axes ++ flat_map u32_bytes c.args.labels.now.labels)
    c.new-piecer.result c.put_list.new.piecer
    (g.D.Desk.state c.args.desk.now) (g.D.Desk.state c.put_list.new.desk) (g.D.Desk.state c.finish.new.desk) c.new-piecer.ensures
    (Puts-more (label_header c.args.labels.now.axes) (flat_map u32_bytes c.args.labels.now.labels) _ _ _ _ _ _
    (subst (λ bytes. Puts bytes c.new-piecer.result c.put.new.self (g.D.Desk.state c.args.desk.now) (g.D.Desk.state c.put.new.desk))
    head c.in_ok-put.ensures)
    (subst (λ bytes. Puts bytes c.put.new.self c.put_list.new.piecer (g.D.Desk.state c.put.new.desk) (g.D.Desk.state c.put_list.new.desk))
    rest c.in_ok-put_list.ensures))
    c.finish.ensures
