use Rattle.std.proofs.lemmas.Result.{err_from_is_err_and}
use Rattle.agglo_program.proofs.ReadFile.{was_opened}
use Rattle.agglo_program.proofs.CutVolumes.{no_head, refused_leaves, no_body}
use Rattle.agglo_program.proofs.input.read_cut_volume.Goals as goal

pub returns-in_err-head : goal.returns-in_err-head
returns-in_err-head g c =
    let p = err_from_is_err_and c.from_residual-in_err-head.result c.from_residual-in_err-head.ensures.1 in
    rw (p.1, p.2) (no_head _ c.args.chunk c.in_err-head.field-0.0 _ _ _
    (was_opened _ c.open_in.result c.map_err.result _ _ _ c.open_in.ensures c.map_err.ensures.cases c.in_ok-map_err.was) c.in_err-head.ensures)

pub returns-in_err-cutting : goal.returns-in_err-cutting
returns-in_err-cutting g c =
    let p = err_from_is_err_and c.from_residual-in_err-cutting.result c.from_residual-in_err-cutting.ensures.1 in
    rw (p.1, p.2) (refused_leaves _ c.args.chunk c.in_ok-head.head.dims c.in_err-cutting.field-0.0 _ _ _
    (was_opened _ c.open_in.result c.map_err.result _ _ _ c.open_in.ensures c.map_err.ensures.cases c.in_ok-map_err.was)
    c.in_ok-head.ensures c.in_err-cutting.ensures)

pub returns-in_err-volume : goal.returns-in_err-volume
returns-in_err-volume g c =
    let p = err_from_is_err_and c.from_residual-in_err-volume.result c.from_residual-in_err-volume.ensures.1 in
    rw (p.1, p.2) (no_body _ c.args.chunk c.in_ok-head.head.dims c.in_err-volume.field-0.0 _ _ _ _
    (was_opened _ c.open_in.result c.map_err.result _ _ _ c.open_in.ensures c.map_err.ensures.cases c.in_ok-map_err.was)
    c.in_ok-head.ensures c.in_ok-cutting.ensures.0 c.in_err-volume.ensures)
