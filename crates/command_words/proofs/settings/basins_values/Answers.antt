use Rattle.std.proofs.Common.{sym, ◌∙◌}
use Rattle.std.proofs.lemmas.Slice.Eq.{bytes_eq-Decides}
use Rattle.command_words.proofs.GivenValues.{same_name}
use Rattle.command_words.proofs.settings.basins_values.Goals as goal

pub returns-in_err-volume : goal.returns-in_err-volume
returns-in_err-volume c = λ given slots are. rw c.from_residual.ensures (λ settings gives. c.in_err-volume.ensures given slots settings.volume gives.volume)

pub returns-in_err-labels : goal.returns-in_err-labels
returns-in_err-labels c = λ given slots are. rw c.from_residual-in_err-labels.ensures (λ settings gives. c.in_err-labels.ensures given slots settings.labels gives.labels)

pub returns-in_err-low : goal.returns-in_err-low
returns-in_err-low c = λ given slots are. rw c.from_residual-in_err-low.ensures (λ settings gives. c.in_err-low.ensures.number given slots settings.low gives.low)

pub returns-then-eq : goal.returns-then-eq
returns-then-eq c = λ given slots are settings gives. gives.differ
    (same_name given slots.once _ settings.volume c.in_ok-volume.volume.now gives.volume (c.in_ok-volume.ensures given slots)
    ∙ (bytes_eq-Decides c.in_ok-volume.volume.now c.in_ok-labels.labels.now).0 (sym c.if-eq.ensures)
    ∙ sym (same_name given slots.once _ settings.labels c.in_ok-labels.labels.now gives.labels (c.in_ok-labels.ensures given slots)))

pub returns : goal.returns
returns c = λ given slots are. record {
  options_are = are;
  volume = c.in_ok-volume.ensures given slots;
  labels = c.in_ok-labels.ensures given slots;
  low = c.in_ok-low.ensures.number given slots;
  differ = λ e. cc (c.if-eq.ensures ∙ (bytes_eq-Decides c.in_ok-volume.volume.now c.in_ok-labels.labels.now).1 e);
}
