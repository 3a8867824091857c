use Rattle.std.proofs.Common.{◌≡◌, ◌++◌, map, take}
use Rattle.mutual_merge.specs.Pairs.{merge_of}
use Rattle.mutual_merge.proofs.pairs.note_merges.Given as goal

abbrev pub invariant-loop-pair : goal.invariant-loop-pair
invariant-loop-pair l =
    l.merges.items ≡ l.initial.merges.items ++ map (merge_of l.regions) (take l.pair-index l.pairs)
