use Rattle.std.proofs.Common.{◌+◌, ◌≤◌, ◌^◌, take}
use Rattle.std.specs.Prelude.{All}
use Rattle.merge_tree.specs.Renaming.{NamesBelow}
use Rattle.merge_tree.proofs.renaming.greatest_name.Given as goal

abbrev pub invariant-loop-merge : goal.invariant-loop-merge
invariant-loop-merge l = record {
  most : l.greatest ≤ 2 ^ 28;
  names : All (NamesBelow (l.greatest + 1)) (take l.merge-index l.merges);
}
