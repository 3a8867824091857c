use Rattle.std.proofs.Common.{All, take, string_bytes}
use Rattle.command_words.specs.Words.{IsBare}
use Rattle.command_words.proofs.words.are_plain.Given as goal

-- no word so far is bare
abbrev pub invariant-loop-word : goal.invariant-loop-word
invariant-loop-word l = All (λ word. ¬ (IsBare (string_bytes word))) (take l.word-index l.words)
