use Rattle.agglo_model.proofs.Worked.{two_arms_are}
use Rattle.agglo_model.proofs.examples.basin_with_two_arms.Goals as goal

pub returns : goal.returns
returns c = two_arms_are
