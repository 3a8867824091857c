use Rattle.std.proofs.Common.{◌≡◌, ◌++◌, string_bytes, take}
use Rattle.std.specs.List.{flat_map}
use Rattle.agglo_program.specs.Shown.{merge_line}
use Rattle.agglo_program.proofs.shown.add_merges.Given as goal

-- the lines of the merges so far were added
abbrev pub invariant-loop-merge : goal.invariant-loop-merge
invariant-loop-merge l = string_bytes l.note ≡ string_bytes l.initial.note ++ flat_map merge_line (take l.merge-index l.merges)
