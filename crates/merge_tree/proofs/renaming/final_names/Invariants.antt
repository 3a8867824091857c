use Rattle.std.proofs.Common.{length, drop}
use Rattle.std.specs.Prelude.{All}
use Rattle.merge_tree.specs.Renaming.{NamesBelow, HoldsFinalNames}
use Rattle.merge_tree.proofs.renaming.final_names.Given as goal

-- the names are final under the merges from i on
abbrev pub invariant-loop-i : goal.invariant-loop-i
invariant-loop-i l = record {
  finals : HoldsFinalNames (drop l.i l.merges) l.names.items;
  within : All (NamesBelow (length l.names.items)) l.merges;
}
