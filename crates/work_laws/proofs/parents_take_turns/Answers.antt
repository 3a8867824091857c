use Rattle.work_laws.proofs.Turns.{parents_take_turns}
use Rattle.work_laws.proofs.parents_take_turns.Goals as goal

pub returns : goal.returns
returns c = parents_take_turns
