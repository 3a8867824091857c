use Rattle.agglo_model.proofs.WorksRun.{works_are_greedy}
use Rattle.agglo_model.proofs.laws_of_nodes.works_of_all_nodes_are_greedy.Goals as goal

pub returns : goal.returns
returns c = works_are_greedy
