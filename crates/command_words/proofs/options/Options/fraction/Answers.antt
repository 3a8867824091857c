use Rattle.std.proofs.Common.{◌∙◌, sym}
use Rattle.command_words.proofs.GivenValues.{fraction_outcome}
use Rattle.command_words.proofs.options.Options.fraction.Goals as goal

pub returns : goal.returns
returns c = λ given slots. fraction_outcome c.parse_fraction.result given c.args.option c.args.self.now.values c.in_ok-word.word slots
    (sym c.value.ensures ∙ c.in_ok-word.was) c.parse_fraction.ensures
