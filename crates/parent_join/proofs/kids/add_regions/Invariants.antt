use Rattle.std.proofs.Common.{◌≡◌, ◌++◌, take}
use Rattle.std.specs.Prelude.{map}
use Rattle.parent_join.specs.Kids.{with_faces_in}
use Rattle.parent_join.proofs.kids.add_regions.Given as goal

abbrev pub invariant-loop-region : goal.invariant-loop-region
invariant-loop-region l = l.regions.items ≡ l.initial.regions.items ++ map (with_faces_in l.kept) (take l.region-index l.more)
