use Rattle.agglo_model.proofs.LevelCounts.{levels_agree}
use Rattle.agglo_model.proofs.laws_of_nodes.levels_agree.Goals as goal

pub returns : goal.returns
returns c = levels_agree
