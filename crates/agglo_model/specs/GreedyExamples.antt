-- Small volumes on which rules of greedy agglomeration part from rules that look like them.
use Rattle.std.specs.Prelude.{ℕ, ◌+◌, List, [], ◌∷◌, ◌++◌, length}
use Rattle.std.specs.List.{flat_map}
use Rattle.agglo_model.specs.Grid.{Grid}
use Rattle.agglo_model.specs.PairOrder.{Threshold}
use Rattle.agglo_model.specs.Greedy.{Merge}

-- the threshold p / q
abbrev pub mean_of : ℕ → ℕ → Threshold
mean_of p q = record { p = p; q = q }

-- a merge with the three numbers of its contact
abbrev pub merge_of : ℕ → ℕ → ℕ → ℕ → ℕ → Merge
merge_of survivor absorbed sum count tie = record {
  survivor = survivor;
  absorbed = absorbed;
  contact = record { sum = sum; count = count; tie = tie };
}

-- voxels in one row along x, with the affinity of each to the next
abbrev pub row_volume : List ℕ → Grid
row_volume affinities = record {
  axes = record { nx = length affinities + 1; ny = 1; nz = 1 };
  bytes = 0 ∷ 0 ∷ 0 ∷ flat_map (λ a. a ∷ 0 ∷ 0 ∷ []) affinities;
}

-- 6 by 3 voxels in three regions, each of which touches the other two; the regions 1 and 5 touch by
-- two edges, numbers 30 and 48, whose affinities are the arguments
abbrev pub sheet_volume : ℕ → ℕ → Grid
sheet_volume upper lower = record {
  axes = record { nx = 6; ny = 3; nz = 1 };
  bytes =
      (0 ∷ 0 ∷ 0 ∷ 200 ∷ 0 ∷ 0 ∷ 10 ∷ 0 ∷ 0 ∷ 200 ∷ 0 ∷ 0 ∷ 100 ∷ 0 ∷ 0 ∷ 200 ∷ 0 ∷ 0 ∷ [])
      ++ (0 ∷ 200 ∷ 0 ∷ 200 ∷ 200 ∷ 0 ∷ 200 ∷ 10 ∷ 0 ∷ 200 ∷ 10 ∷ 0 ∷ upper ∷ 200 ∷ 0 ∷ 200 ∷ 200 ∷ 0 ∷ [])
      ++ (0 ∷ 200 ∷ 0 ∷ 200 ∷ 200 ∷ 0 ∷ 200 ∷ 200 ∷ 0 ∷ 200 ∷ 200 ∷ 0 ∷ lower ∷ 200 ∷ 0 ∷ 200 ∷ 200 ∷ 0 ∷ []);
}

-- its labels: three names, then with 5 merged into 3, then with 5 merged into 1
abbrev pub sheet_labels : List ℕ
sheet_labels = 1 ∷ 1 ∷ 3 ∷ 3 ∷ 5 ∷ 5
    ∷ 1 ∷ 1 ∷ 1 ∷ 1 ∷ 5 ∷ 5
    ∷ 1 ∷ 1 ∷ 1 ∷ 1 ∷ 5 ∷ 5 ∷ []

abbrev pub sheet_labels_3_5 : List ℕ
sheet_labels_3_5 = 1 ∷ 1 ∷ 3 ∷ 3 ∷ 3 ∷ 3
    ∷ 1 ∷ 1 ∷ 1 ∷ 1 ∷ 3 ∷ 3
    ∷ 1 ∷ 1 ∷ 1 ∷ 1 ∷ 3 ∷ 3 ∷ []

abbrev pub sheet_labels_1_5 : List ℕ
sheet_labels_1_5 = 1 ∷ 1 ∷ 3 ∷ 3 ∷ 1 ∷ 1
    ∷ 1 ∷ 1 ∷ 1 ∷ 1 ∷ 1 ∷ 1
    ∷ 1 ∷ 1 ∷ 1 ∷ 1 ∷ 1 ∷ 1 ∷ []

-- the tree file of one merge in a row of four voxels: (1, 3) with the mean 50 / 1, tie 6, threshold 50 / 1
abbrev pub row_tree_bytes : List ℕ
row_tree_bytes = (65 ∷ 70 ∷ 70 ∷ 84 ∷ 82 ∷ 69 ∷ 48 ∷ 49 ∷ [])
    ++ (4 ∷ 0 ∷ 0 ∷ 0 ∷ 1 ∷ 0 ∷ 0 ∷ 0 ∷ 1 ∷ 0 ∷ 0 ∷ 0 ∷ [])
    ++ (50 ∷ 0 ∷ 0 ∷ 0 ∷ 1 ∷ 0 ∷ 0 ∷ 0 ∷ 1 ∷ 0 ∷ 0 ∷ 0 ∷ [])
    ++ (1 ∷ 0 ∷ 0 ∷ 0 ∷ 3 ∷ 0 ∷ 0 ∷ 0 ∷ [])
    ++ (50 ∷ 0 ∷ 0 ∷ 0 ∷ 0 ∷ 0 ∷ 0 ∷ 0 ∷ [])
    ++ (1 ∷ 0 ∷ 0 ∷ 0 ∷ 0 ∷ 0 ∷ 0 ∷ 0 ∷ [])
    ++ (6 ∷ 0 ∷ 0 ∷ 0 ∷ 0 ∷ 0 ∷ 0 ∷ 0 ∷ [])
