use Rattle.std.proofs.lemmas.Result.{err_from_is_err_and}
use Rattle.agglo_program.proofs.ReadFile.{was_opened, no_volume}
use Rattle.agglo_program.proofs.input.read_volume_file.Goals as goal

pub returns-in_err-volume : goal.returns-in_err-volume
returns-in_err-volume g c =
    let p = err_from_is_err_and c.from_residual-in_err-volume.result c.from_residual-in_err-volume.ensures.1 in
    rw (p.1, p.2) (no_volume _ c.in_err-volume.field-0.0 _ _ _
    (was_opened _ c.open_in.result c.map_err.result _ _ _ c.open_in.ensures c.map_err.ensures.cases c.in_ok-map_err.was) c.in_err-volume.ensures)
