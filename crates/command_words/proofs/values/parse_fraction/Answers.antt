use Rattle.command_words.proofs.Cuts.{fraction_numerator, fraction_denominator}
use Rattle.command_words.proofs.values.parse_fraction.Goals as goal

pub returns-in_err-p : goal.returns-in_err-p
returns-in_err-p c = rw c.from_residual-in_err-p.ensures (λ t f. c.in_err-p.ensures
    (fraction_numerator c.args.word.now c.in_ok-above.above.now c.in_ok-above.below.now t c.in_ok-above.ensures.0 c.in_ok-above.ensures.1 f))

pub returns-in_err-q : goal.returns-in_err-q
returns-in_err-q c = rw c.from_residual-in_err-q.ensures (λ t f. c.in_err-q.ensures
    (fraction_denominator c.args.word.now c.in_ok-above.above.now c.in_ok-above.below.now t c.in_ok-above.ensures.0 c.in_ok-above.ensures.1 f))
