-- Small volumes and files, worked by hand: they pin the definitions to numbers.
use Rattle.std.specs.Prelude.{ℕ, List, [], ◌∷◌, ◌++◌, replicate, codes}
use Rattle.agglo_model.specs.Axes.{Axes}
use Rattle.agglo_model.specs.Grid.{Grid}

-- the bytes of a row of voxels from those of its edges along x; the other edges have none
abbrev pub row_bytes : List ℕ → List ℕ
row_bytes [] = []
row_bytes (x ∷ xs) = x ∷ 0 ∷ 0 ∷ row_bytes xs

-- a row of voxels; the first byte is that of the voxel at x = 0, where no edge is
abbrev pub row : ℕ → List ℕ → Grid
row voxels xs = record { axes = record { nx = voxels; ny = 1; nz = 1 }; bytes = row_bytes xs }

-- two voxels
abbrev pub one_edge : Grid
one_edge = row 2 (0 ∷ 7 ∷ [])

-- two basins of two voxels, with a weaker edge between them
abbrev pub two_basins : Grid
two_basins = row 4 (0 ∷ 200 ∷ 50 ∷ 180 ∷ [])

-- three lists of labels for it, each wrong in one way: labels on what is background from 190 up,
-- a basin in two halves, a basin named by its higher voxel
abbrev pub labels_on_background : List ℕ
labels_on_background = 1 ∷ 1 ∷ 4 ∷ 4 ∷ []

abbrev pub labels_of_halves : List ℕ
labels_of_halves = 1 ∷ 2 ∷ 3 ∷ 3 ∷ []

abbrev pub labels_by_higher : List ℕ
labels_by_higher = 1 ∷ 1 ∷ 4 ∷ 4 ∷ []

-- all edges alike
abbrev pub plateau : Grid
plateau = row 4 (0 ∷ 100 ∷ 100 ∷ 100 ∷ [])

-- the bytes of a flat volume: each voxel's byte along x, then its byte along y
abbrev pub sheet_bytes : List ℕ → List ℕ
sheet_bytes [] = []
sheet_bytes (x ∷ []) = x ∷ []
sheet_bytes (x ∷ y ∷ xys) = x ∷ y ∷ 0 ∷ sheet_bytes xys

abbrev pub sheet : ℕ → ℕ → List ℕ → Grid
sheet nx ny xys = record { axes = record { nx = nx; ny = ny; nz = 1 }; bytes = sheet_bytes xys }

-- three basins, each in contact with both others
abbrev pub three_basins : Grid
three_basins = sheet 6 3
    (0 ∷ 0 ∷ 200 ∷ 0 ∷ 10 ∷ 0 ∷ 200 ∷ 0 ∷ 100 ∷ 0 ∷ 200 ∷ 0
    ∷ 0 ∷ 200 ∷ 200 ∷ 200 ∷ 200 ∷ 10 ∷ 200 ∷ 10 ∷ 100 ∷ 200 ∷ 200 ∷ 200
    ∷ 0 ∷ 200 ∷ 200 ∷ 200 ∷ 200 ∷ 200 ∷ 200 ∷ 200 ∷ 100 ∷ 200 ∷ 200 ∷ 200 ∷ [])

-- one basin that holds another between two arms
abbrev pub two_arms : Grid
two_arms = sheet 4 3
    (0 ∷ 0 ∷ 200 ∷ 0 ∷ 200 ∷ 0 ∷ 200 ∷ 0
    ∷ 0 ∷ 200 ∷ 40 ∷ 40 ∷ 200 ∷ 40 ∷ 200 ∷ 40
    ∷ 0 ∷ 200 ∷ 200 ∷ 40 ∷ 200 ∷ 40 ∷ 200 ∷ 40 ∷ [])

-- a box with edges on all three axes
abbrev pub box : Axes
box = record { nx = 2; ny = 3; nz = 4 }

-- the volume file of `two_basins`, and such a file with other fields of the header
abbrev pub file_with : List ℕ → ℕ → ℕ → ℕ → ℕ → ℕ → List ℕ → List ℕ
file_with text nx_low nx_high ny_low ny_high count rest = text
    ++ nx_low ∷ nx_high ∷ 0 ∷ 0 ∷ ny_low ∷ ny_high ∷ 0 ∷ 0 ∷ 1 ∷ 0 ∷ 0 ∷ 0 ∷ count ∷ 0 ∷ 0 ∷ 0 ∷ rest

abbrev pub zeros : List ℕ
zeros = replicate 8 0

abbrev pub two_basins_file : List ℕ
two_basins_file = file_with (codes "AFFVOL01") 4 0 1 0 3 (zeros ++ two_basins.bytes)
