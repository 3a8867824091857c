use Rattle.command_words.proofs.settings.make_values.Goals as goal

pub returns-in_err-volume : goal.returns-in_err-volume
returns-in_err-volume c = λ given slots are. rw c.from_residual.ensures (λ settings gives. c.in_err-volume.ensures given slots settings.volume gives.volume)

pub returns-in_err-start : goal.returns-in_err-start
returns-in_err-start c = λ given slots are. rw c.from_residual-in_err-start.ensures (λ settings gives. c.in_err-start.ensures.number given slots settings.start gives.start)

pub returns-in_err-dims : goal.returns-in_err-dims
returns-in_err-dims c = λ given slots are. rw c.from_residual-in_err-dims.ensures (λ settings gives. c.in_err-dims.ensures given slots settings.axes gives.dims)

pub returns : goal.returns
returns c = λ given slots are. record {
  options_are = are;
  volume = c.in_ok-volume.ensures given slots;
  start = c.in_ok-start.ensures.number given slots;
  dims = c.in_ok-dims.ensures given slots;
}
