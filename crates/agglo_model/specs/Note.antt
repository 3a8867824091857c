-- What the program prints on standard output.
use Rattle.std.specs.Prelude.{ℕ, List, [], ◌∷◌, ◌++◌, length, codes}
use Rattle.std.specs.Fmt.{decimal}
use Rattle.agglo_model.specs.Basins.{names, foreground}

-- a word, a space, a number in plain decimals, and a line feed
abbrev pub line : List ℕ → ℕ → List ℕ
line word n = word ++ 32 ∷ decimal n ++ 10 ∷ []

-- what `basins` prints for these labels
abbrev pub basins_note : List ℕ → List ℕ
basins_note labels = line (codes "voxels") (length labels)
    ++ line (codes "foreground") (foreground labels)
    ++ line (codes "basins") (length (names labels))

-- what `make` prints for a volume of so many voxels
abbrev pub make_note : ℕ → List ℕ
make_note voxels = line (codes "voxels") voxels
