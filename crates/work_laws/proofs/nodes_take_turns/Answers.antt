use Rattle.work_laws.proofs.Turns.{nodes_take_turns}
use Rattle.work_laws.proofs.nodes_take_turns.Goals as goal

pub returns : goal.returns
returns c = nodes_take_turns
