use Rattle.std.proofs.Common.{◌∙◌, sym}
use Rattle.command_words.proofs.GivenValues.{axes_outcome}
use Rattle.command_words.proofs.options.Options.axes.Goals as goal

pub returns : goal.returns
returns c = λ given slots. axes_outcome c.parse_axes.result given c.args.option c.args.self.now.values c.in_ok-word.word slots
    (sym c.value.ensures ∙ c.in_ok-word.was) c.parse_axes.ensures
