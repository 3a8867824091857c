-- How high voxels stand: a later edge of an ascent is best at a lower voxel.
use Rattle.std.proofs.Common.{ℕ, ◌<◌, ◌≤◌, arith}
use Rattle.agglo_model.specs.EdgeOrder.{EdgeBefore, IsBest}
use Rattle.agglo_model.specs.Grid.{Grid, affinity}
use Rattle.agglo_model.proofs.Ascent.{standing, standing_at}
use Rattle.agglo_model.proofs.BestEdge.{height_falls}
use Rattle.agglo_model.proofs.Edges.{edge_is}

pub standing_before : (top : ℕ) (g : Grid) (low v w e f : ℕ) → ((k : ℕ) → affinity g k ≤ top)
    → IsBest g low v e → IsBest g low w f → EdgeBefore g f e → standing top g low w < standing top g low v
standing_before top g low v w e f most b c before =
    let falls = height_falls top g e f (most f) (edge_is g.axes f c.strong.edge).numbered before in
    let here = standing_at top g low v e b in
    let there = standing_at top g low w f c in
    omega arith
