use Rattle.std.proofs.Common.{◌∙◌, sym}
use Rattle.command_words.proofs.GivenValues.{number_outcome}
use Rattle.command_words.proofs.options.Options.number.Goals as goal

pub returns-clause-number : goal.returns-clause-number
returns-clause-number c = λ given slots. number_outcome c.parse_number.result given c.args.option c.args.self.now.values c.in_ok-word.word c.args.least c.args.most slots
    (sym c.value.ensures ∙ c.in_ok-word.was) c.parse_number.ensures
