-- A volume of affinities on its grid.
use Rattle.std.specs.Prelude.{◌≡◌, ℕ, ◌<◌, List, length, slice_index}
use Rattle.agglo_model.specs.Axes.{Axes, IsWithinLimits, edge_count}

-- the axes, and one byte for each edge number; the bytes at numbers without an edge mean nothing
pub record Grid : Type 0 where
  pub axes : Axes
  pub bytes : List ℕ

-- the affinity of an edge is the byte at its number
abbrev pub affinity : Grid → ℕ → ℕ
affinity g e = slice_index g.bytes e

-- the axes are within the limits, and there is a byte for each edge number
pub record IsWhole (g : Grid) : Type 0 where
  pub limits : IsWithinLimits g.axes
  pub whole_body : length g.bytes ≡ edge_count g.axes
  pub bytes_fit : (e : ℕ) → affinity g e < 256
