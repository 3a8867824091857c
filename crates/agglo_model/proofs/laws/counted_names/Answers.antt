use Rattle.agglo_model.proofs.Names.{names_counted}
use Rattle.agglo_model.proofs.laws.counted_names.Goals as goal

pub returns : goal.returns
returns c = names_counted
