use Rattle.std.proofs.Common.{◌≡◌, map, take}
use Rattle.clap.specs.Words.{app_of}
use Rattle.command_words.specs.Parser.{parser_of}
use Rattle.command_words.specs.Slots.{spelled}
use Rattle.command_words.proofs.parser.make_parser.Given as goal

-- the parser has the options so far
abbrev pub invariant-loop-option : goal.invariant-loop-option
invariant-loop-option l = app_of l.parser ≡ parser_of l.fn.command (map spelled (take l.option-index l.options))
