-- Small volumes cut into chunks.
use Rattle.std.specs.Prelude.{ℕ, [], ◌∷◌}
use Rattle.agglo_model.specs.Cutting.{Chunking, chunking}

-- a row of voxels cut into leaves of one length
abbrev pub cut_row : ℕ → ℕ → Chunking
cut_row voxels size = chunking (record { nx = voxels; ny = 1; nz = 1 }) (size ∷ 1 ∷ 1 ∷ [])

-- a cube cut into smaller cubes
abbrev pub cut_cube : ℕ → ℕ → Chunking
cut_cube side size = chunking (record { nx = side; ny = side; nz = side }) (size ∷ size ∷ size ∷ [])
