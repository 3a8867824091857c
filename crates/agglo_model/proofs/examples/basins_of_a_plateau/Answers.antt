use Rattle.agglo_model.proofs.Worked.{plateau_are}
use Rattle.agglo_model.proofs.examples.basins_of_a_plateau.Goals as goal

pub returns : goal.returns
returns c = plateau_are
