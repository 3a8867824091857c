use Rattle.agglo_model.proofs.OrderedWorks.{works_exist}
use Rattle.agglo_model.proofs.laws_of_nodes.works_exist.Goals as goal

pub returns : goal.returns
returns c = works_exist
