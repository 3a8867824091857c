use Rattle.agglo_model.proofs.SortedMerges.{sorted_is_greedy}
use Rattle.agglo_model.proofs.laws_of_merging.sorted_merges_are_greedy.Goals as goal

pub returns : goal.returns
returns c = sorted_is_greedy
