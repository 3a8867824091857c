use Rattle.std.proofs.Common.{◌-◌, ◌∷◌, length, take, drop, refl, sym, ap, subst, ◌∙◌, string_bytes}
use Rattle.command_words.specs.Jobs.{AnswersWords}
use Rattle.command_words.specs.Texts.{texts}
use Rattle.command_words.specs.Words.{AreNoSettings, IsBare}
use Rattle.command_words.proofs.BareWords.{all_texts, at_once, bare_spells, first_word}
use Rattle.command_words.proofs.words.read_words.Goals as goal

pub returns-then-not-are_plain-clause-answer : goal.returns-then-not-are_plain-clause-answer
returns-then-not-are_plain-clause-answer c =
    let words = c.args.words.now in
    let others = take (length words - 1) (drop 1 words) in
    subst AreNoSettings (sym (first_word words c.command-item.result c.in-len1-up.len_at_least c.command-item.is))
    (bare_spells c.are_plain.result (string_bytes c.command-item.result) others c.if-not-are_plain.true c.are_plain.ensures)

pub read_command-requires : goal.read_command-requires
read_command-requires c =
    all_texts (λ word. ¬ (IsBare word)) (take (length c.args.words.now - 1) (drop 1 c.args.words.now)) (c.if-not-are_plain.ensures.0 refl)

pub returns-clause-answer : goal.returns-clause-answer
returns-clause-answer c =
    let words = c.args.words.now in
    let others = take (length words - 1) (drop 1 words) in
    subst (λ all. AnswersWords all c.read_command.result)
    (ap (λ word. word ∷ texts others) c.as_str.ensures.value
    ∙ sym (first_word words c.command-item.result c.in-len1-up.len_at_least c.command-item.is)) c.read_command.ensures

pub returns-clause-at_once : goal.returns-clause-at_once
returns-clause-at_once c = at_once c.read_command.result (texts c.args.words.now) (returns-clause-answer c)
