-- Names stay small where merges change places.
use Rattle.std.specs.Prelude.{List, All, IsPermutation}
use Rattle.std.proofs.lemmas.List.Sorted.{All-permutation}
use Rattle.agglo_model.specs.Greedy.{Merge}
use Rattle.merge_tree.specs.Renaming.{HasSmallNames}

pub names_stay_small : (merges sorted : List Merge) → IsPermutation merges sorted → All HasSmallNames merges → All HasSmallNames sorted
names_stay_small = All-permutation HasSmallNames
