use Rattle.command_words.proofs.Cuts.{axes_read}
use Rattle.command_words.proofs.values.parse_axes.Goals as goal

pub returns-in_err-x : goal.returns-in_err-x
returns-in_err-x c = rw c.from_residual.ensures (λ axes s. c.in_err-x.ensures _ s.sizes)

pub returns : goal.returns
returns c = rw c.ok.ensures.value (axes_read c.args.word.now c.in_ok-x.field-0 c.new.result c.in_ok-x.ensures c.new.ensures)
