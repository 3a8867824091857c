use Rattle.agglo_model.proofs.ReadBack.{trees_read_back}
use Rattle.agglo_model.proofs.laws_of_trees.trees_read_back.Goals as goal

pub returns : goal.returns
returns c = trees_read_back
