use Rattle.agglo_model.proofs.OneAnswer.{cuttings_agree}
use Rattle.agglo_model.proofs.laws_of_nodes.cuttings_agree.Goals as goal

pub returns : goal.returns
returns c = cuttings_agree
