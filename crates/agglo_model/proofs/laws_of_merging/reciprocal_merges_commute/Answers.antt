use Rattle.agglo_model.proofs.Diamonds.{diamond}
use Rattle.agglo_model.proofs.laws_of_merging.reciprocal_merges_commute.Goals as goal

pub returns : goal.returns
returns c = diamond
