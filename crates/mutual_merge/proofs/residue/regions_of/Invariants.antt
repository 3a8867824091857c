use Rattle.std.proofs.Common.{◌≡◌, map}
use Rattle.std.specs.Prelude.{filter}
use Rattle.std.specs.List.{range_with_len}
use Rattle.mutual_merge.specs.Linked.{region_at}
use Rattle.mutual_merge.specs.Left.{is_kept}
use Rattle.mutual_merge.proofs.residue.regions_of.Given as goal

abbrev pub invariant-loop-place : goal.invariant-loop-place
invariant-loop-place l =
    l.left.items ≡ map (region_at l.regions) (filter (is_kept l.kept) (range_with_len 0 l.place))
