-- The lawful lists of merges, and the bytes of a merge tree file, version 1.
use Rattle.std.specs.Prelude.{◌≢◌, ℕ, ◌*◌, ◌<◌, ◌≤◌, List, ◌++◌, length, All, AllPairs, codes}
use Rattle.std.specs.List.{flat_map, AllAdjacentBelow}
use Rattle.std.specs.Int.{w64, to_le_bytes}
use Rattle.agglo_model.specs.Axes.{Axes, voxel_count, edge_count}
use Rattle.agglo_model.specs.LabelFile.{u32_bytes, axes_bytes}
use Rattle.agglo_model.specs.PairOrder.{Contact, Threshold, Reaches}
use Rattle.agglo_model.specs.Greedy.{Merge, RanksFirst}

-- the survivor is the smaller of two names that voxels can have
pub record HasNames (axes : Axes) (m : Merge) : Type 0 where
  pub named : 0 < m.survivor
  pub ordered : m.survivor < m.absorbed
  pub in_range : m.absorbed ≤ voxel_count axes

-- a merge leaves the names of a later one alone: what it absorbed is gone
pub record Keeps (earlier later : Merge) : Type 0 where
  pub survivor : earlier.absorbed ≢ later.survivor
  pub absorbed : earlier.absorbed ≢ later.absorbed

-- the three numbers can be those of a contact in a volume of these axes
pub record HasNumbers (axes : Axes) (c : Contact) : Type 0 where
  pub some : 0 < c.count
  pub few : c.count ≤ edge_count axes
  pub bytes : c.sum ≤ 255 * c.count
  pub edge : c.tie < edge_count axes

-- What every list of merges of greedy agglomeration meets: there are fewer than voxels, the names
-- are alive when they merge, contacts fall strictly in pair order, and each reaches the threshold.
pub record AreLawful (axes : Axes) (t : Threshold) (merges : List Merge) : Type 0 where
  pub few : length merges < voxel_count axes
  pub names : All (HasNames axes) merges
  pub alive : AllPairs Keeps merges
  pub numbers : All (λ m. HasNumbers axes m.contact) merges
  pub falling : AllAdjacentBelow RanksFirst merges (length merges)
  pub reaching : All (λ m. Reaches t m.contact) merges

-- the text that a tree file begins with
abbrev pub tree_magic : List ℕ
tree_magic = codes "AFFTRE01"

-- a number as eight bytes, the lowest first
abbrev pub u64_bytes : ℕ → List ℕ
u64_bytes n = to_le_bytes w64 n

-- a merge has 32 bytes: its two names, and the sum, the count and the tie of its contact, unreduced
abbrev pub merge_bytes : Merge → List ℕ
merge_bytes m = u32_bytes m.survivor ++ u32_bytes m.absorbed ++ u64_bytes m.contact.sum
    ++ u64_bytes m.contact.count ++ u64_bytes m.contact.tie

-- the text, the axes, the threshold's two numbers as given, the number of merges
abbrev pub tree_header : Axes → Threshold → ℕ → List ℕ
tree_header axes t merges =
    tree_magic ++ axes_bytes axes ++ u32_bytes t.p ++ u32_bytes t.q ++ u32_bytes merges

-- the header, then each merge in order
abbrev pub tree_file : Axes → Threshold → List Merge → List ℕ
tree_file axes t merges = tree_header axes t (length merges) ++ flat_map merge_bytes merges
