use Rattle.agglo_model.proofs.Worked.{three_basins_are}
use Rattle.agglo_model.proofs.examples.three_flat_basins.Goals as goal

pub returns : goal.returns
returns c = three_basins_are
