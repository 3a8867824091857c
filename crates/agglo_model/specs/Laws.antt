-- What holds of basin labels in every volume.
use Rattle.std.specs.Prelude.{◌≡◌, ◌↔◌, ℕ, ◌+◌, ◌≤◌, ◌==◌, List, length, count_by}
use Rattle.std.specs.List.{range_with_len}
use Rattle.agglo_model.specs.Axes.{voxel_count}
use Rattle.agglo_model.specs.Grid.{Grid}
use Rattle.agglo_model.specs.EdgeOrder.{IsStrongAt, HasNoBest}
use Rattle.agglo_model.specs.Basins.{AreBasins, label_of, names}

-- these are the basin labels of the volume, and no other list is
pub record AreTheBasins (g : Grid) (low : ℕ) (labels : List ℕ) : Type 0 where
  pub are : AreBasins g low labels
  pub alone : (others : List ℕ) → AreBasins g low others → others ≡ labels

-- every volume has basin labels, and one list of them, whatever its axes and bytes
abbrev pub HasOneLabelling : Type 0
HasOneLabelling = (g : Grid) (low : ℕ) → (labels : List ℕ) × AreTheBasins g low labels

-- a basin's name is the label of the voxel whose number plus 1 it is
abbrev pub NamesNameVoxels : Type 0
NamesNameVoxels = (g : Grid) (low : ℕ) (labels : List ℕ) → AreBasins g low labels
    → (v w : ℕ) → label_of labels w ≡ v + 1 → label_of labels v ≡ v + 1

-- no label is above the number of voxels
abbrev pub LabelsAreBounded : Type 0
LabelsAreBounded = (g : Grid) (low : ℕ) (labels : List ℕ) → AreBasins g low labels
    → (v : ℕ) → label_of labels v ≤ voxel_count g.axes

-- so the basins are as many as the voxels whose label is their own number plus 1
abbrev pub NamesAreCounted : Type 0
NamesAreCounted = (g : Grid) (low : ℕ) (labels : List ℕ) → AreBasins g low labels
    → length (names labels) ≡ count_by (λ v. label_of labels v == v + 1) (range_with_len 0 (voxel_count g.axes))

-- a voxel has no best edge exactly where no strong edge meets it
abbrev pub BestIsWhereStrongIs : Type 0
BestIsWhereStrongIs = (g : Grid) (low v : ℕ) → HasNoBest g low v ↔ ((e : ℕ) → ¬ (IsStrongAt g low v e))
