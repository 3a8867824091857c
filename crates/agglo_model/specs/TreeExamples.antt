-- Tree files, worked by hand: a whole one, and others with one thing wrong.
use Rattle.std.specs.Prelude.{ℕ, List, [], ◌∷◌, ◌++◌}
use Rattle.agglo_model.specs.Axes.{Axes}
use Rattle.agglo_model.specs.Greedy.{Merge}
use Rattle.agglo_model.specs.GreedyExamples.{mean_of, merge_of}
use Rattle.agglo_model.specs.MergeTree.{tree_file}
use Rattle.agglo_model.specs.TreeFile.{MergeTree}

-- the axes of a row of eight voxels
abbrev pub row_of_eight : Axes
row_of_eight = record { nx = 8; ny = 1; nz = 1 }

-- the tree file of these merges in that row, lawful or not, by the threshold 50 / 1
abbrev pub row_file : List Merge → List ℕ
row_file merges = tree_file row_of_eight (mean_of 50 1) merges

-- three merges in pair order: two equal means with the smaller tie first, then a smaller mean
abbrev pub row_merges : List Merge
row_merges = merge_of 1 3 100 1 6 ∷ merge_of 5 7 100 1 18 ∷ merge_of 1 5 90 1 12 ∷ []

abbrev pub row_tree : MergeTree
row_tree = record { axes = row_of_eight; threshold = mean_of 50 1; merges = row_merges }

-- a header: the text, nx in its first two bytes, ny and nz, the threshold, the number of merges
abbrev pub header_with : List ℕ → ℕ → ℕ → ℕ → ℕ → ℕ → List ℕ
header_with text nx_low nx_high ny q merges = text
    ++ nx_low ∷ nx_high ∷ 0 ∷ 0 ∷ ny ∷ 0 ∷ 0 ∷ 0 ∷ 1 ∷ 0 ∷ 0 ∷ 0
    ∷ 50 ∷ 0 ∷ 0 ∷ 0 ∷ q ∷ 0 ∷ 0 ∷ 0 ∷ merges ∷ 0 ∷ 0 ∷ 0 ∷ []
