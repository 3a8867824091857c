use Rattle.std.proofs.Common.{◌≡◌, ◌<◌, ◌^◌, All, take}
use Rattle.std.specs.Char.{IsAsciiDigit}
use Rattle.command_words.specs.Words.{digits_number}
use Rattle.command_words.proofs.values.digits_value.Given as goal

-- the digits so far are digits, spell the number, and are too few for it to be large
abbrev pub invariant-loop-digit : goal.invariant-loop-digit
invariant-loop-digit l =
    (l.number ≡ digits_number (take l.digit-index l.digits))
    × (l.number < 10 ^ l.digit-index)
    × All IsAsciiDigit (take l.digit-index l.digits)
