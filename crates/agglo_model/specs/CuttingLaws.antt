-- What holds of every volume that is cut into chunks.
use Rattle.std.specs.Prelude.{◌≡◌, ℕ, suc}
use Rattle.std.specs.Int.{div_ceil}
use Rattle.agglo_model.specs.Cutting.{Chunking, IsChunking, cells_on}

-- from level to level each axis has half as many cells, rounded up
abbrev pub CellsDouble : Type 0
CellsDouble = (t : Chunking) → IsChunking t → (k c : ℕ) → cells_on t (suc k) c ≡ div_ceil (cells_on t k c) 2
