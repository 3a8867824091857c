use Rattle.work_laws.proofs.SettledNodes.{settling_joined_is_work}
use Rattle.work_laws.proofs.settling_residues_is_the_work.Goals as goal

pub returns : goal.returns
returns c = settling_joined_is_work
