use Rattle.std.proofs.Common.{refl}
use Rattle.index_lists.specs.Links.{walk, walks}
use Rattle.index_lists.proofs.examples.lists_of_three_items.Goals as goal

pub returns-clause-walked : goal.returns-clause-walked
unfolding walk walks
returns-clause-walked c = refl
