use Rattle.agglo_model.proofs.WorksRun.{reciprocal_in_root}
use Rattle.agglo_model.proofs.laws_of_nodes.root_has_all_pairs.Goals as goal

pub returns : goal.returns
returns c = reciprocal_in_root
