use Rattle.agglo_model.proofs.BasinLabels.{label-le}
use Rattle.agglo_model.proofs.laws.bounded_labels.Goals as goal

pub returns : goal.returns
returns c = label-le
