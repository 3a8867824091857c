-- How the ascent goes on from a voxel of a cell to another.
use Rattle.std.specs.Prelude.{◌≡◌, ◌+◌, ◌<◌, min}
use Rattle.agglo_model.specs.Axes.{voxel_count}
use Rattle.agglo_model.specs.EdgeOrder.{HasNoBest}
use Rattle.steepest_ascent.specs.CellEnds.{IsInCell}
use Rattle.steepest_ascent.specs.Charts.{Chart, own_grid, voxel_of}
use Rattle.steepest_ascent.specs.Turns.{EndsWith, ClimbsTo}
use Rattle.steepest_ascent.specs.declared.cell_ascent.Spot.{Spot}
use Rattle.steepest_ascent.specs.declared.cell_ascent.CellTurn.{CellTurn}
use Rattle.steepest_ascent.specs.declared.cell_ascent.CellTurn.TheVariants.{Stays, Ends, Climbs}

-- a voxel of the cell with both its numbers
pub record IsSpot (t : Chart) (spot : Spot) : Type 0 where
  pub in_cell : spot.own < voxel_count (own_grid t)
  pub same : voxel_of t spot.own ≡ spot.voxel

-- the best edge of a voxel is also that of its far end in the cell, and the lower of both names the basin
pub record EndsWithin (t : Chart) (spot far : Spot) : Type 0 where
  pub far_spot : IsSpot t far
  pub here : EndsWith t.grid t.low spot.voxel (min spot.voxel far.voxel + 1)
  pub there : EndsWith t.grid t.low far.voxel (min spot.voxel far.voxel + 1)

-- the ascent goes on from a voxel to another in the cell
pub record ClimbsWithin (t : Chart) (spot next : Spot) : Type 0 where
  pub next_spot : IsSpot t next
  pub inside : IsInCell t.grid.axes t.cell next.voxel
  pub climbs : ClimbsTo t.grid t.low spot.voxel next.voxel

-- how the ascent goes on from a voxel whose best edge does not leave the cell
abbrev pub IsCellTurn : Chart → Spot → CellTurn → Type 0
IsCellTurn t spot Stays = HasNoBest t.grid t.low spot.voxel
IsCellTurn t spot (Ends far) = EndsWithin t spot far
IsCellTurn t spot (Climbs next) = ClimbsWithin t spot next
