use Rattle.work_laws.proofs.SettledNodes.{settling_is_work}
use Rattle.work_laws.proofs.settling_is_the_work.Goals as goal

pub returns : goal.returns
returns c = settling_is_work
