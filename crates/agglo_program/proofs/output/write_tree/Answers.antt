use Rattle.agglo_program.proofs.Written.{tree_is_open}
use Rattle.agglo_program.proofs.output.write_tree.Goals as goal

pub put_tree-requires : goal.put_tree-requires
put_tree-requires g c = tree_is_open _ _ _ c.in_ok-open_out.ensures
