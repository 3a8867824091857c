-- A volume cut into chunks: a tree of nodes, each with a box of voxels as its cell.
use Rattle.std.specs.Prelude.{◌≡◌, ◌⊎◌, ℕ, zero, suc, ◌+◌, ◌*◌, ◌-◌, ◌/◌, ◌^◌, ◌<◌, ◌≤◌, ◌==◌, nat_lt, min, Bool, true, if◌then◌else◌, List, [], ◌∷◌, slice_index, Option, Some, None}
use Rattle.std.specs.Int.{div_ceil}
use Rattle.std.specs.List.{range_with_len, position_or_len}
use Rattle.agglo_model.specs.Axes.{Axes, IsWithinLimits, voxel_count, voxel_at, coordinate}

-- the axes of a volume, and the lengths of its smallest chunks, the leaves
pub record Chunking : Type 0 where
  pub axes : Axes
  pub leaf : Axes

-- the length of axis c: 0 is x, 1 is y, 2 is z
abbrev pub length_on : Axes → ℕ → ℕ
length_on a c = if c == 0 then a.nx else (if c == 1 then a.ny else a.nz)

-- the chunking by leaves of these sizes on the x, y and z axis: a size above its axis is taken as the axis
abbrev pub chunking : Axes → List ℕ → Chunking
chunking a sizes = record {
  axes = a;
  leaf = record {
    nx = min (slice_index sizes 0) a.nx;
    ny = min (slice_index sizes 1) a.ny;
    nz = min (slice_index sizes 2) a.nz;
  };
}

-- how long the cells of level k are on axis c, but for the last one, which the volume's end may cut off
abbrev pub cell_length : Chunking → ℕ → ℕ → ℕ
cell_length t k c = length_on t.leaf c * 2 ^ k

-- how many cells of level k cover axis c
unfoldable pub cells_on : Chunking → ℕ → ℕ → ℕ
cells_on t k c = div_ceil (length_on t.axes c) (cell_length t k c)

-- the cells of level k are a grid, numbered as voxels are
abbrev pub level_grid : Chunking → ℕ → Axes
level_grid t k = record { nx = cells_on t k 0; ny = cells_on t k 1; nz = cells_on t k 2 }

-- how many cells level k has
abbrev pub cells_at : Chunking → ℕ → ℕ
cells_at t k = voxel_count (level_grid t k)

-- the last level is the first with one cell
unfoldable pub last_level : Chunking → ℕ
last_level t = position_or_len (λ k. cells_at t k == 1) (range_with_len 0 (t.axes.nx + t.axes.ny + t.axes.nz))

-- the number of the first node of level k: nodes are numbered level by level, from the leaves on
abbrev pub first_node : Chunking → ℕ → ℕ
first_node t zero = 0
first_node t (suc k) = first_node t k + cells_at t k

-- how many nodes there are; their numbers are those below it
abbrev pub node_count : Chunking → ℕ
node_count t = first_node t (suc (last_level t))

-- the root, the one node of the last level
abbrev pub root : Chunking → ℕ
root t = first_node t (last_level t)

-- the level of node m is the first that ends after m
unfoldable pub level_of : Chunking → ℕ → ℕ
level_of t m = position_or_len (λ k. nat_lt m (first_node t (suc k))) (range_with_len 0 (suc (last_level t)))

-- the place of node m's cell on axis c, in the grid of its level
abbrev pub cell_place : Chunking → ℕ → ℕ → ℕ
cell_place t m c = coordinate (level_grid t (level_of t m)) (m - first_node t (level_of t m)) c

-- where the cell of node m begins on axis c
abbrev pub cell_low : Chunking → ℕ → ℕ → ℕ
cell_low t m c = cell_place t m c * cell_length t (level_of t m) c

-- where it ends on axis c: at the next cell's beginning, or at the volume's end
abbrev pub cell_high : Chunking → ℕ → ℕ → ℕ
cell_high t m c = min ((cell_place t m c + 1) * cell_length t (level_of t m) c) (length_on t.axes c)

-- the cell of node m is the box from its low corner up to, but not including, its high corner
abbrev pub low_corner : Chunking → ℕ → List ℕ
low_corner t m = cell_low t m 0 ∷ cell_low t m 1 ∷ cell_low t m 2 ∷ []

abbrev pub high_corner : Chunking → ℕ → List ℕ
high_corner t m = cell_high t m 0 ∷ cell_high t m 1 ∷ cell_high t m 2 ∷ []

-- the node of level k whose cell holds voxel v
abbrev pub node_at : Chunking → ℕ → ℕ → ℕ
node_at t k v = first_node t k + voxel_at (level_grid t k)
    (coordinate t.axes v 0 / cell_length t k 0)
    (coordinate t.axes v 1 / cell_length t k 1)
    (coordinate t.axes v 2 / cell_length t k 2)

-- the leaf whose cell holds voxel v
abbrev pub leaf_of : Chunking → ℕ → ℕ
leaf_of t v = node_at t 0 v

-- the parent of a node but the root: the node of the next level at half the place, rounded down
abbrev pub node_above : Chunking → ℕ → ℕ
node_above t m = first_node t (suc (level_of t m)) + voxel_at (level_grid t (suc (level_of t m)))
    (cell_place t m 0 / 2) (cell_place t m 1 / 2) (cell_place t m 2 / 2)

-- the parent of node m, where it has one
abbrev pub parent : Chunking → ℕ → Option ℕ
parent t m = if m == root t then None else Some (node_above t m)

-- how many cells of the level below lie on axis c of node m's cell: two, or one where the level below ends
abbrev pub children_on : Chunking → ℕ → ℕ → ℕ
children_on t m c = min 2 (cells_on t (level_of t m - 1) c - 2 * cell_place t m c)

-- the children of a node that is no leaf are a grid, from twice its place on
abbrev pub children_grid : Chunking → ℕ → Axes
children_grid t m = record { nx = children_on t m 0; ny = children_on t m 1; nz = children_on t m 2 }

-- how many children node m has; a leaf has none
abbrev pub child_count : Chunking → ℕ → ℕ
child_count t m = if level_of t m == 0 then 0 else voxel_count (children_grid t m)

-- child i of node m: x runs fastest, then y, then z, so children are in ascending order of number
abbrev pub child : Chunking → ℕ → ℕ → ℕ
child t m i = first_node t (level_of t m - 1) + voxel_at (level_grid t (level_of t m - 1))
    (2 * cell_place t m 0 + coordinate (children_grid t m) i 0)
    (2 * cell_place t m 1 + coordinate (children_grid t m) i 1)
    (2 * cell_place t m 2 + coordinate (children_grid t m) i 2)

-- a face of a cell is artificial where it is not on the volume's border: the low and the high one on axis c
abbrev pub is_low_artificial : Chunking → ℕ → ℕ → Bool
is_low_artificial t m c = nat_lt 0 (cell_low t m c)

abbrev pub is_high_artificial : Chunking → ℕ → ℕ → Bool
is_high_artificial t m c = nat_lt (cell_high t m c) (length_on t.axes c)

-- a number for a set of faces, from the low and the high ones on each axis: 1 and 2 on x, 4 and 8 on y,
-- 16 and 32 on z
abbrev pub face_bits : (ℕ → Bool) → (ℕ → Bool) → ℕ
face_bits low high = (if low 0 then 1 else 0) + (if high 0 then 2 else 0)
    + (if low 1 then 4 else 0) + (if high 1 then 8 else 0)
    + (if low 2 then 16 else 0) + (if high 2 then 32 else 0)

-- the artificial faces of node m's cell
abbrev pub artificial_faces : Chunking → ℕ → ℕ
artificial_faces t m = face_bits (is_low_artificial t m) (is_high_artificial t m)

-- voxel v of node m's cell touches an artificial face on axis c
abbrev pub IsAtFaceOn : Chunking → ℕ → ℕ → ℕ → Type 0
IsAtFaceOn t m c v =
    ((is_low_artificial t m c ≡ true) × (coordinate t.axes v c ≡ cell_low t m c))
    ⊎ ((is_high_artificial t m c ≡ true) × (coordinate t.axes v c + 1 ≡ cell_high t m c))

-- voxel v of node m's cell touches an artificial face
abbrev pub IsAtFace : Chunking → ℕ → ℕ → Type 0
IsAtFace t m v = IsAtFaceOn t m 0 v ⊎ (IsAtFaceOn t m 1 v ⊎ IsAtFaceOn t m 2 v)

-- the axes are within the limits, each leaf length is from 1 up to its axis, and there are at most 2^18 leaves
pub record IsChunking (t : Chunking) : Type 0 where
  pub limits : IsWithinLimits t.axes
  pub some_x : 0 < t.leaf.nx
  pub some_y : 0 < t.leaf.ny
  pub some_z : 0 < t.leaf.nz
  pub most_x : t.leaf.nx ≤ t.axes.nx
  pub most_y : t.leaf.ny ≤ t.axes.ny
  pub most_z : t.leaf.nz ≤ t.axes.nz
  pub most_leaves : cells_at t 0 ≤ 2 ^ 18

-- what is wrong with three numbers as the sizes of leaves
pub data SizesFlaw : Type 0 where
  ChunkZero : ℕ → SizesFlaw
  TooManyLeaves : ℕ → SizesFlaw

-- the first that holds of: the size on axis c is 0; there are this many leaves, more than 2^18
unfoldable pub sizes_flaw : Axes → List ℕ → Option SizesFlaw
sizes_flaw a sizes =
    if slice_index sizes 0 == 0 then Some (ChunkZero 0)
    else (if slice_index sizes 1 == 0 then Some (ChunkZero 1)
    else (if slice_index sizes 2 == 0 then Some (ChunkZero 2)
    else (if nat_lt (2 ^ 18) (cells_at (chunking a sizes) 0) then Some (TooManyLeaves (cells_at (chunking a sizes) 0))
    else None)))
