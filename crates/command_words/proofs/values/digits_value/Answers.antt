use Rattle.std.proofs.Common.{◌≡◌, ℕ, ◌+◌, ◌*◌, ◌-◌, ◌<◌, List, length, take, get_or, arith}
use Rattle.std.proofs.lemmas.Grind.{common_steps, pow_more}
use Rattle.std.proofs.lemmas.List.Sums.{fold_more}
use Rattle.std.proofs.lemmas.List.Elements.{All-more}
use Rattle.std.specs.Char.{IsAsciiDigit}
use Rattle.command_words.specs.Words.{digits_number}
use Rattle.command_words.proofs.values.digits_value.Goals as goal

-- one digit more
digits_number_more : (digits : List ℕ) (i n d : ℕ) → i < length digits → n ≡ digits_number (take i digits)
    → d ≡ get_or digits i 0 - 48 → 10 * n + d ≡ digits_number (take (i + 1) digits)
digits_number_more digits i n d h e x =
    let more : digits_number (take (i + 1) digits) ≡ 10 * digits_number (take i digits) + (get_or digits i 0 - 48) =
    fold_more (λ m digit. 10 * m + (digit - 48)) 0 digits i 0 h in
    cc

pub loop-digit-preserved : goal.loop-digit-preserved
loop-digit-preserved c =
    let here : IsAsciiDigit (get_or c.args.digits.now c.loop-digit.digit-index 0) = grind (arith, common_steps) in (
      digits_number_more _ _ _ _ c.loop-digit-test.true c.loop-digit.invariant.0 c.from.ensures,
      grind (arith, pow_more 10 c.loop-digit.digit-index),
      All-more IsAsciiDigit _ _ 0 c.loop-digit-test.true c.loop-digit.invariant.2 here,
    )
