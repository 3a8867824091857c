use Rattle.std.proofs.Common.{◌≡◌, ◌*◌, take}
use Rattle.std.specs.List.{flat_map}
use Rattle.agglo_model.specs.MergeTree.{merge_bytes}
use Rattle.merge_tree.proofs.tree_file.write_merges.Given as goal

abbrev pub invariant-loop-i : goal.invariant-loop-i
invariant-loop-i l = take (32 * l.i) l.bytes ≡ flat_map merge_bytes (take l.i l.merges)
