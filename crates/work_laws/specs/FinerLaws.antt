-- What a cutting counts follows from what a finer one counts.
use Rattle.std.specs.Prelude.{◌≡◌, ℕ, List}
use Rattle.agglo_model.specs.Grid.{Grid}
use Rattle.agglo_model.specs.PairOrder.{Threshold}
use Rattle.agglo_model.specs.Connected.{AreConnected}
use Rattle.agglo_model.specs.Cutting.{Chunking, IsChunking}
use Rattle.agglo_model.specs.Finer.{IsFiner, coarsened}
use Rattle.agglo_model.specs.Report.{Level}
use Rattle.agglo_model.specs.Segmentation.{AreLevels}

-- the levels of a cutting are those of a finer one, where the first of them are one
abbrev pub FinerLevelsCoarsen : Type 0
FinerLevelsCoarsen = (g : Grid) (t : Threshold) (c f : Chunking) (k : ℕ) (labels : List ℕ) (levels : List Level)
    → IsChunking c → c.axes ≡ g.axes → IsFiner c f k → AreConnected g.axes labels
    → AreLevels g t f labels levels → AreLevels g t c labels (coarsened k levels)
