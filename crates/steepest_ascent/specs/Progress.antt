-- Labels that are being filled in.
use Rattle.std.specs.Prelude.{◌≡◌, ℕ, ◌⊎◌, List}
use Rattle.agglo_model.specs.Grid.{Grid}
use Rattle.agglo_model.specs.Basins.{label_of, AreBasins}

-- the label of voxel v in the basin labels of the volume
abbrev pub IsLabelOf : Grid → ℕ → ℕ → ℕ → Type 0
IsLabelOf g low v label = (basins : List ℕ) → AreBasins g low basins → label ≡ label_of basins v

-- each entry is 0 or the right label
abbrev pub AreRightSoFar : Grid → ℕ → List ℕ → Type 0
AreRightSoFar g low labels =
    (v : ℕ) → (label_of labels v ≡ 0) ⊎ IsLabelOf g low v (label_of labels v)

-- each entry is as before, or it is the right label now
abbrev pub GainsRightLabels : Grid → ℕ → List ℕ → List ℕ → Type 0
GainsRightLabels g low before after =
    (v : ℕ) → (label_of after v ≡ label_of before v) ⊎ IsLabelOf g low v (label_of after v)
