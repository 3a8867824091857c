use Rattle.work_laws.proofs.FinerLevels.{finer_levels_coarsen}
use Rattle.work_laws.proofs.finer_levels_coarsen.Goals as goal

pub returns : goal.returns
returns c = finer_levels_coarsen
