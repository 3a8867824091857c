-- What the end of a voxel within its piece tells of its label.
use Rattle.std.specs.Prelude.{◌≡◌, ℕ, ◌<◌, List}
use Rattle.agglo_model.specs.Axes.{voxel_count}
use Rattle.agglo_model.specs.Basins.{AreBasins, label_of}
use Rattle.agglo_model.specs.EdgeOrder.{EdgeBefore, IsBest}
use Rattle.agglo_model.specs.Grid.{Grid}
use Rattle.steepest_ascent.specs.Progress.{IsLabelOf}
use Rattle.steepest_ascent.specs.declared.ends.End.{End}
use Rattle.steepest_ascent.specs.declared.ends.End.TheVariants.{Background, Root, Exit}

-- the ascent from v comes to w: both have one label, and the best edge of w comes before that of v
pub record LeadsOn (g : Grid) (low v w : ℕ) : Type 0 where
  pub edge : ℕ
  pub next : ℕ
  pub best : IsBest g low v edge
  pub far_best : IsBest g low w next
  pub before : EdgeBefore g next edge
  pub voxel : w < voxel_count g.axes
  pub same_label : (basins : List ℕ) → AreBasins g low basins → label_of basins v ≡ label_of basins w

-- the end tells the label, or the voxel to which the ascent leads
abbrev pub TellsOf : Grid → ℕ → ℕ → End → Type 0
TellsOf g low v Background = IsLabelOf g low v 0
TellsOf g low v (Root name) = IsLabelOf g low v name
TellsOf g low v (Exit w) = LeadsOn g low v w
