use Rattle.command_words.proofs.OneTask.{sizes_are_some}
use Rattle.command_words.proofs.laws.sizes_are_some.Goals as goal

pub returns : goal.returns
returns c = sizes_are_some
