use Rattle.work_laws.proofs.LeafGraphs.{leaves_start}
use Rattle.work_laws.proofs.leaves_start.Goals as goal

pub returns : goal.returns
returns c = leaves_start
