-- The bytes of a label file.
use Rattle.std.specs.Prelude.{ℕ, List, ◌++◌, replicate, codes}
use Rattle.std.specs.List.{flat_map}
use Rattle.std.specs.Int.{w32, to_le_bytes}
use Rattle.agglo_model.specs.Axes.{Axes}

-- the text that a label file begins with
abbrev pub label_magic : List ℕ
label_magic = codes "AFFLAB01"

-- a number as four bytes, the lowest first
abbrev pub u32_bytes : ℕ → List ℕ
u32_bytes n = to_le_bytes w32 n

abbrev pub axes_bytes : Axes → List ℕ
axes_bytes axes = u32_bytes axes.nx ++ u32_bytes axes.ny ++ u32_bytes axes.nz

-- the text, the axes, 4 bytes a label, eight bytes of zero
abbrev pub label_header : Axes → List ℕ
label_header axes = label_magic ++ axes_bytes axes ++ u32_bytes 4 ++ replicate 8 0

-- after the header, four bytes for each voxel, in the order of their numbers
abbrev pub label_file : Axes → List ℕ → List ℕ
label_file axes labels = label_header axes ++ flat_map u32_bytes labels
