use Rattle.agglo_model.proofs.Worked.{above_threshold_are}
use Rattle.agglo_model.proofs.examples.basins_above_a_threshold.Goals as goal

pub returns : goal.returns
returns c = above_threshold_are
