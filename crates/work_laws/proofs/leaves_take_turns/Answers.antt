use Rattle.work_laws.proofs.Turns.{leaves_take_turns}
use Rattle.work_laws.proofs.leaves_take_turns.Goals as goal

pub returns : goal.returns
returns c = leaves_take_turns
