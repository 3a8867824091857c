use Rattle.agglo_program.proofs.Written.{labels_are_open}
use Rattle.agglo_program.proofs.output.write_labels.Goals as goal

pub put_labels-requires : goal.put_labels-requires
put_labels-requires g c = labels_are_open _ _ _ c.in_ok-open_out.ensures
