use Rattle.agglo_model.proofs.SortedMerges.{one_greedy_run}
use Rattle.agglo_model.proofs.laws_of_merging.one_greedy_run.Goals as goal

pub returns : goal.returns
returns c = one_greedy_run
