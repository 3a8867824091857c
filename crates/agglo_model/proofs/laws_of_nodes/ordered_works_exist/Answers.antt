use Rattle.agglo_model.proofs.OrderedWorks.{ordered_works_exist}
use Rattle.agglo_model.proofs.laws_of_nodes.ordered_works_exist.Goals as goal

pub returns : goal.returns
returns c = ordered_works_exist
