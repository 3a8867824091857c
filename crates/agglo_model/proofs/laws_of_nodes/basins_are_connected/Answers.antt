use Rattle.agglo_model.proofs.ConnectedBasins.{basins_are_connected}
use Rattle.agglo_model.proofs.laws_of_nodes.basins_are_connected.Goals as goal

pub returns : goal.returns
returns c = basins_are_connected
