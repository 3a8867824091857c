use Rattle.agglo_model.proofs.Levels.{cells_on-suc}
use Rattle.agglo_model.proofs.laws_of_cutting.cells_double.Goals as goal

pub returns : goal.returns
returns c = cells_on-suc
