use Rattle.std.proofs.Common.{◌≡◌, ◌==◌, ◌+◌, ◌≤◌, count_by}
use Rattle.std.specs.List.{range_with_len}
use Rattle.agglo_model.specs.Basins.{label_of}
use Rattle.segment_run.proofs.segmenting.count_basins.Given as goal

-- the voxels so far that name a basin
abbrev pub invariant-loop-v : goal.invariant-loop-v
invariant-loop-v l = (l.count ≤ l.v)
    × (l.count ≡ count_by (λ v. label_of l.labels.labels v == v + 1) (range_with_len 0 l.v))
