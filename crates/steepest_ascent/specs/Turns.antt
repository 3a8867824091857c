-- How the ascent goes on from a voxel.
use Rattle.std.specs.Prelude.{◌≡◌, ◌≢◌, ℕ, ◌+◌}
use Rattle.agglo_model.specs.Axes.{AreEnds, lower_end}
use Rattle.agglo_model.specs.Grid.{Grid}
use Rattle.agglo_model.specs.EdgeOrder.{IsBest, HasNoBest}
use Rattle.steepest_ascent.specs.declared.ascent.Turn.{Turn}
use Rattle.steepest_ascent.specs.declared.ascent.Turn.TheVariants.{Stays, Ends, Climbs}

-- the best edge of v is also that of its far end, and the basin has this name
pub record EndsWith (g : Grid) (low v name : ℕ) : Type 0 where
  pub edge : ℕ
  pub far : ℕ
  pub best : IsBest g low v edge
  pub ends : AreEnds g.axes edge v far
  pub both : IsBest g low far edge
  pub name_is : name ≡ lower_end g.axes edge + 1

-- the best edge of v leads to w, which has another best edge
pub record ClimbsTo (g : Grid) (low v w : ℕ) : Type 0 where
  pub edge : ℕ
  pub next : ℕ
  pub best : IsBest g low v edge
  pub ends : AreEnds g.axes edge v w
  pub far_best : IsBest g low w next
  pub other : next ≢ edge

-- what the ascent does at voxel v: it stays where there is no best edge, ends in a basin, or climbs to another voxel
abbrev pub IsTurnAt : Grid → ℕ → ℕ → Turn → Type 0
IsTurnAt g low v Stays = HasNoBest g low v
IsTurnAt g low v (Ends name) = EndsWith g low v name
IsTurnAt g low v (Climbs w) = ClimbsTo g low v w
