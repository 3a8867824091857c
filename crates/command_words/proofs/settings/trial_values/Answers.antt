use Rattle.command_words.proofs.settings.trial_values.Goals as goal

pub returns-in_err-start : goal.returns-in_err-start
returns-in_err-start c = λ given slots are. rw c.from_residual.ensures (λ settings gives. c.in_err-start.ensures.number given slots settings.start gives.start)

pub returns-in_err-dims : goal.returns-in_err-dims
returns-in_err-dims c = λ given slots are. rw c.from_residual-in_err-dims.ensures (λ settings gives. c.in_err-dims.ensures given slots settings.axes gives.dims)

pub returns-in_err-low : goal.returns-in_err-low
returns-in_err-low c = λ given slots are. rw c.from_residual-in_err-low.ensures (λ settings gives. c.in_err-low.ensures.number given slots settings.low gives.low)

pub returns-in_err-threshold : goal.returns-in_err-threshold
returns-in_err-threshold c = λ given slots are. rw c.from_residual-in_err-threshold.ensures (λ settings gives. c.in_err-threshold.ensures given slots settings.threshold gives.merge)

pub returns-in_err-chunk : goal.returns-in_err-chunk
returns-in_err-chunk c = λ given slots are. rw c.from_residual-in_err-chunk.ensures (λ settings gives. c.in_err-chunk.ensures given slots settings.chunk gives.chunk)

pub returns-in_err-workers : goal.returns-in_err-workers
returns-in_err-workers c = λ given slots are. rw c.from_residual-in_err-workers.ensures (λ settings gives. c.in_err-workers.ensures.number given slots settings.workers gives.workers)

pub returns : goal.returns
returns c = λ given slots are. record {
  options_are = are;
  start = c.in_ok-start.ensures.number given slots;
  dims = c.in_ok-dims.ensures given slots;
  low = c.in_ok-low.ensures.number given slots;
  merge = c.in_ok-threshold.ensures given slots;
  chunk = c.in_ok-chunk.ensures given slots;
  workers = c.in_ok-workers.ensures.number given slots;
}
