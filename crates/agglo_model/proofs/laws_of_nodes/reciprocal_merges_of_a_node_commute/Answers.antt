use Rattle.agglo_model.proofs.NodeRuns.{node_diamond}
use Rattle.agglo_model.proofs.laws_of_nodes.reciprocal_merges_of_a_node_commute.Goals as goal

pub returns : goal.returns
returns c = node_diamond
