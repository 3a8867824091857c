use Rattle.std.proofs.Common.{◌∙◌, sym}
use Rattle.command_words.proofs.GivenValues.{no_name}
use Rattle.command_words.proofs.options.Options.name.Goals as goal

pub returns-else-is_name : goal.returns-else-is_name
returns-else-is_name c = λ given slots file. no_name given c.args.option c.args.self.now.values c.in_ok-word.word file slots
    (sym c.value.ensures ∙ c.in_ok-word.was) (λ good. cc (c.if-is_name.ensures.1 good))
