use Rattle.agglo_model.proofs.Worked.{two_basins_are}
use Rattle.agglo_model.proofs.examples.basins_of_two_pairs.Goals as goal

pub returns : goal.returns
returns c = two_basins_are
