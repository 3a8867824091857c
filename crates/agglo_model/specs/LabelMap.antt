-- Labels on a grid.
use Rattle.std.specs.Prelude.{◌≡◌, ℕ, ◌^◌, ◌≤◌, List, length, slice_index, EachIndex}
use Rattle.agglo_model.specs.Axes.{Axes, IsWithinLimits, voxel_count}

-- the axes, and one label for each voxel
pub record LabelMap : Type 0 where
  pub axes : Axes
  pub labels : List ℕ

-- no label is above 2^28, the greatest name of a basin
abbrev pub AreLabels : List ℕ → Type 0
AreLabels labels = EachIndex labels (λ v. slice_index labels v ≤ 2 ^ 28)

-- the axes are within the limits, and each voxel has a label
pub record IsLabelled (m : LabelMap) : Type 0 where
  pub limits : IsWithinLimits m.axes
  pub one_each : length m.labels ≡ voxel_count m.axes
  pub labels_fit : AreLabels m.labels
