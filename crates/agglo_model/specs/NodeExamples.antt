-- A row of eight voxels in two leaves, and what its nodes do.
use Rattle.std.specs.Prelude.{ℕ, List, [], ◌∷◌}
use Rattle.agglo_model.specs.Axes.{Axes}
use Rattle.agglo_model.specs.Grid.{Grid}
use Rattle.agglo_model.specs.Greedy.{Merge}
use Rattle.agglo_model.specs.Cutting.{Chunking}
use Rattle.agglo_model.specs.CuttingExamples.{cut_row}
use Rattle.agglo_model.specs.GreedyExamples.{row_volume, merge_of}
use Rattle.agglo_model.specs.RegionGraph.{Region, GraphEdge, RegionGraph}

-- four regions of two voxels each, whose contacts have the means 100, 90 and 100
abbrev pub four_pairs : Grid
four_pairs = row_volume (200 ∷ 100 ∷ 200 ∷ 90 ∷ 200 ∷ 100 ∷ 200 ∷ [])

abbrev pub pair_labels : List ℕ
pair_labels = 1 ∷ 1 ∷ 3 ∷ 3 ∷ 5 ∷ 5 ∷ 7 ∷ 7 ∷ []

-- a leaf of six voxels, node 0, and one of two, node 1; node 2 is the root
abbrev pub cut_pairs : Chunking
cut_pairs = cut_row 8 6

-- the labels after the work of node 0, and after that of the root
abbrev pub pairs_after_leaves : List ℕ
pairs_after_leaves = 1 ∷ 1 ∷ 1 ∷ 1 ∷ 5 ∷ 5 ∷ 7 ∷ 7 ∷ []

abbrev pub pairs_after_root : List ℕ
pairs_after_root = 1 ∷ 1 ∷ 1 ∷ 1 ∷ 5 ∷ 5 ∷ 5 ∷ 5 ∷ []

-- the works at the threshold 100: a merge in the first leaf, none in the second, and one in the root
abbrev pub pair_works : List (List Merge)
pair_works = (merge_of 1 3 100 1 6 ∷ []) ∷ [] ∷ (merge_of 5 7 100 1 18 ∷ []) ∷ []

-- a name with the faces that it touches
abbrev pub region : ℕ → ℕ → Region
region name faces = record { name = name; faces = faces }

-- what the three nodes pass: each leaf its name at the face between them, and the root nothing
abbrev pub pair_residues : List RegionGraph
pair_residues = record { regions = region 5 2 ∷ []; edges = [] }
    ∷ record { regions = region 7 1 ∷ []; edges = [] }
    ∷ record { regions = []; edges = [] } ∷ []

-- two names whose contact has the mean 90; the second touches the high face on x
abbrev pub contact_1_5 : GraphEdge
contact_1_5 = record { a = 1; b = 5; contact = record { sum = 90; count = 1; tie = 12 } }

abbrev pub two_regions : RegionGraph
two_regions = record { regions = region 1 0 ∷ region 5 2 ∷ []; edges = contact_1_5 ∷ [] }

-- six regions of two voxels each, whose contacts have the means 90, 10, 100, 10 and 110
abbrev pub six_pairs : Grid
six_pairs = row_volume (200 ∷ 90 ∷ 200 ∷ 10 ∷ 200 ∷ 100 ∷ 200 ∷ 10 ∷ 200 ∷ 110 ∷ 200 ∷ [])

abbrev pub six_labels : List ℕ
six_labels = 1 ∷ 1 ∷ 3 ∷ 3 ∷ 5 ∷ 5 ∷ 7 ∷ 7 ∷ 9 ∷ 9 ∷ 11 ∷ 11 ∷ []

-- a leaf of nine voxels, node 0, and one of three
abbrev pub cut_six : Chunking
cut_six = cut_row 12 9

-- its two reciprocal pairs at the threshold 50
abbrev pub merge_1_3 : Merge
merge_1_3 = merge_of 1 3 90 1 6

abbrev pub merge_5_7 : Merge
merge_5_7 = merge_of 5 7 100 1 18

-- three voxels in a row
abbrev pub three_voxels : Axes
three_voxels = record { nx = 3; ny = 1; nz = 1 }
