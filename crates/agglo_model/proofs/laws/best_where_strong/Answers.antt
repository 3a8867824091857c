use Rattle.agglo_model.proofs.BestEdge.{no_best_no_strong, no_strong_no_best}
use Rattle.agglo_model.proofs.laws.best_where_strong.Goals as goal

pub returns : goal.returns
returns c = λ g low v. (no_best_no_strong g low v, no_strong_no_best g low v)
