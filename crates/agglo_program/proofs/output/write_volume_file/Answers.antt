use Rattle.agglo_program.proofs.Written.{volume_is_open}
use Rattle.agglo_program.proofs.output.write_volume_file.Goals as goal

pub write_generated-requires : goal.write_generated-requires
write_generated-requires g c = volume_is_open _ _ _ c.in_ok-open_out.ensures
