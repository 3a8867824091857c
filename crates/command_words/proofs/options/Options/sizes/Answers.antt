use Rattle.std.proofs.Common.{◌∙◌, sym}
use Rattle.command_words.proofs.GivenValues.{sizes_outcome}
use Rattle.command_words.proofs.options.Options.sizes.Goals as goal

pub returns : goal.returns
returns c = λ given slots. sizes_outcome c.parse_sizes.result given c.args.option c.args.self.now.values c.in_ok-word.word slots
    (sym c.value.ensures ∙ c.in_ok-word.was) c.parse_sizes.ensures
