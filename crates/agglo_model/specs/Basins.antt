-- The basins of steepest ascent, as a list of labels, one for each voxel.
use Rattle.std.specs.Prelude.{◌≡◌, ℕ, ◌+◌, ◌<◌, ◌==◌, ◌↔◌, nat_lt, Bool, List, length, slice_index, filter, fold, count_by, max}
use Rattle.std.specs.List.{list_any, range_with_len}
use Rattle.agglo_model.specs.Axes.{voxel_count, lower_end, higher_end}
use Rattle.agglo_model.specs.Grid.{Grid}
use Rattle.agglo_model.specs.EdgeOrder.{IsBest, HasNoBest}

-- the label of voxel v
abbrev pub label_of : List ℕ → ℕ → ℕ
label_of labels v = slice_index labels v

-- label 0 is background: it stands exactly where no edge is best
abbrev pub BackgroundIsUnlabelled : Grid → ℕ → List ℕ → Type 0
BackgroundIsUnlabelled g low labels =
    (v : ℕ) → v < voxel_count g.axes → (label_of labels v ≡ 0) ↔ HasNoBest g low v

-- both ends of the best edge of a voxel have one label
abbrev pub LabelsAgreeAlong : Grid → ℕ → List ℕ → Type 0
LabelsAgreeAlong g low labels = (v e : ℕ) → IsBest g low v e
    → label_of labels (lower_end g.axes e) ≡ label_of labels (higher_end e)

-- where one edge is the best of both its ends, the lower one names the basin by its number plus 1
abbrev pub RootsNameBasins : Grid → ℕ → List ℕ → Type 0
RootsNameBasins g low labels =
    (e : ℕ) → IsBest g low (lower_end g.axes e) e → IsBest g low (higher_end e) e
    → label_of labels (lower_end g.axes e) ≡ lower_end g.axes e + 1

-- the basin labels of a volume: three properties that one list alone has, of this length
pub record AreBasins (g : Grid) (low : ℕ) (labels : List ℕ) : Type 0 where
  pub one_each : length labels ≡ voxel_count g.axes
  pub background : BackgroundIsUnlabelled g low labels
  pub along : LabelsAgreeAlong g low labels
  pub named : RootsNameBasins g low labels

-- whether some voxel has this label
abbrev pub occurs : List ℕ → ℕ → Bool
occurs labels x = list_any (λ y. y == x) labels

-- the names of a label list: the labels that occur, but for 0, each once, in ascending order
abbrev pub names : List ℕ → List ℕ
names labels = filter (occurs labels) (range_with_len 1 (fold max 0 labels))

-- how many voxels are no background
abbrev pub foreground : List ℕ → ℕ
foreground labels = count_by (λ y. nat_lt 0 y) labels
