use Rattle.std.proofs.Common.{◌∙◌, sym, ap, not}
use Rattle.command_words.proofs.GivenWords.{dashed}
use Rattle.command_words.proofs.BareWords.{joined_test, alone_test}
use Rattle.command_words.proofs.words.is_plain.Goals as goal

pub returns-in-Some-cut_at : goal.returns-in-Some-cut_at
returns-in-Some-cut_at c = joined_test (not c.is_empty.result) c.args.word.now c.in-Some.option.now _ c.in-Some-cut_at.value.now
    (c.in-Some.ensures.cases.1.1 ∙ ap dashed (sym c.in-Some.ensures.cases.2)) c.in-Some-cut_at.ensures.0 c.in-Some-cut_at.ensures.1
    (ap not c.is_empty.ensures)

pub returns-in-None : goal.returns-in-None
returns-in-None c = alone_test (not c.is_empty-in-None.result) c.args.word.now c.in-Some.option.now
    (c.in-Some.ensures.cases.1.1 ∙ ap dashed (sym c.in-Some.ensures.cases.2)) c.in-None.ensures (ap not c.is_empty-in-None.ensures)
