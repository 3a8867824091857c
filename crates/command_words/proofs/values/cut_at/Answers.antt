use Rattle.std.proofs.lemmas.Str.Pattern.{split_parts}
use Rattle.command_words.proofs.values.cut_at.Goals as goal

pub returns : goal.returns
returns c = split_parts c.args.separator c.args.word.now c.split_once.result c.split_once.ensures.cases c.requires
