-- A segmentation has one answer: the order of merges in a node shows in none of it, and the cutting in the levels
-- alone.
use Rattle.std.specs.Prelude.{◌≡◌, ℕ, List}
use Rattle.agglo_model.specs.Grid.{Grid}
use Rattle.agglo_model.specs.PairOrder.{Threshold}
use Rattle.agglo_model.specs.Greedy.{Merge}
use Rattle.agglo_model.specs.Cutting.{Chunking}
use Rattle.agglo_model.specs.Report.{Level}
use Rattle.agglo_model.specs.Segmentation.{AreLevels, IsSegmentation}

-- the levels of a cutting are one list
abbrev pub LevelsAgree : Type 0
LevelsAgree = (g : Grid) (t : Threshold) (c : Chunking) (labels : List ℕ) (levels others : List Level)
    → AreLevels g t c labels levels → AreLevels g t c labels others → levels ≡ others

-- by any two cuttings the labels, the number of basins and the merges are the same
abbrev pub CuttingsAgree : Type 0
CuttingsAgree = (g : Grid) (low : ℕ) (t : Threshold) (c d : Chunking) (labels others : List ℕ) (basins count : ℕ)
    (merges steps : List Merge) (levels rows : List Level)
    → IsSegmentation g low t c labels basins merges levels → IsSegmentation g low t d others count steps rows
    → (labels ≡ others) × (basins ≡ count) × (merges ≡ steps)
