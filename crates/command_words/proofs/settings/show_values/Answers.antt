use Rattle.command_words.proofs.GivenValues.{show_outcome}
use Rattle.command_words.proofs.settings.show_values.Goals as goal

pub returns : goal.returns
returns c = λ given slots are. show_outcome c.name.result given are (c.name.ensures given slots)
