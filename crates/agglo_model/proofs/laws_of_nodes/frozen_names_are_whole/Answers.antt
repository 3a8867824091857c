use Rattle.agglo_model.proofs.FrozenNames.{frozen_names_are_whole}
use Rattle.agglo_model.proofs.laws_of_nodes.frozen_names_are_whole.Goals as goal

pub returns : goal.returns
returns c = frozen_names_are_whole
