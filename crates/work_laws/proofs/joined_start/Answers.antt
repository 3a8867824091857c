use Rattle.work_laws.proofs.JoinedGraphs.{joined_start}
use Rattle.work_laws.proofs.joined_start.Goals as goal

pub returns : goal.returns
returns c = joined_start
