use Rattle.std.proofs.Common.{◌≡◌, All, get_or, string_bytes, true≢false, refl, sym, ap, ◌∙◌, subst, arith}
use Rattle.std.proofs.lemmas.List.{take_all}
use Rattle.std.proofs.lemmas.List.Elements.{All-more}
use Rattle.command_words.specs.Words.{IsBare}
use Rattle.command_words.proofs.words.are_plain.Goals as goal

pub returns-then-not-is_plain : goal.returns-then-not-is_plain
returns-then-not-is_plain c =
    let text : c.as_str.result.now ≡ string_bytes (get_or c.args.words.now c.loop-word.word-index c.word-item.result) =
    c.as_str.ensures.value ∙ ap string_bytes c.word-item.is in (
      (λ yes. absurd (true≢false (sym yes))),
      (λ all. sym c.if-not-is_plain.true ∙ c.is_plain.ensures.1 (subst (λ word. ¬ (IsBare word)) (sym text)
          (all c.loop-word.word-index c.word-item.result c.loop-word-test.true))),
    )

pub loop-word-preserved : goal.loop-word-preserved
loop-word-preserved c =
    let text : c.as_str.result.now ≡ string_bytes (get_or c.args.words.now c.loop-word.word-index c.word-item.result) =
    c.as_str.ensures.value ∙ ap string_bytes c.word-item.is in
    All-more (λ word. ¬ (IsBare (string_bytes word))) c.args.words.now c.loop-word.word-index c.word-item.result c.loop-word-test.true
    c.loop-word.invariant (subst (λ word. ¬ (IsBare word)) text (c.is_plain.ensures.0 c.if-not-is_plain.false))

pub returns : goal.returns
returns c = (
  (λ yes. subst (All (λ word. ¬ (IsBare (string_bytes word)))) (take_all c.loop-word.word-index c.args.words.now (omega arith)) c.loop-word.invariant),
  (λ all. refl),
)
