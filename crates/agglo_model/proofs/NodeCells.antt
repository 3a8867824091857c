-- The cells of nodes: their places in the grids of their levels, and the voxels that they hold.
use Rattle.std.proofs.Common.{◌≡◌, ℕ, suc, ◌+◌, ◌*◌, ◌-◌, ◌/◌, ◌<◌, ◌≤◌, ap, sym, ◌∙◌, subst, add-one, arith}
use Rattle.std.specs.Int.{div_ceil}
use Rattle.std.proofs.Math.Nat.{mul-le-mul}
use Rattle.agglo_model.specs.Axes.{Axes, IsWithinLimits, IsPlace, voxel_count, voxel_at, coordinate}
use Rattle.agglo_model.specs.Cutting.{Chunking, IsChunking, length_on, cell_length, cells_on, level_grid, cells_at, last_level, first_node, node_count, root, level_of, cell_place, leaf_of}
use Rattle.agglo_model.proofs.Places.{voxel_at-lt, place-voxel}
use Rattle.agglo_model.proofs.Rounding.{div-lt-div_ceil, div_ceil-begins, div_ceil_pos, div_ceil_le}
use Rattle.agglo_model.proofs.Levels.{IsOnLevel, on_level, level_of-is, level_grid_limits, cells_on-suc, cell_length_pos, cells_at-last, cells_at_pos, first_node_le}

-- a node's number within its level is one of its cells
pub index-lt : (t : Chunking) (m : ℕ) → m < node_count t → m - first_node t (level_of t m) < cells_at t (level_of t m)
index-lt t m below = omega (arith, on_level t m below)

-- the place of a node's cell is one of its level's grid
pub node_place : (t : Chunking) → IsChunking t → (m : ℕ) → m < node_count t
    → IsPlace (level_grid t (level_of t m)) (cell_place t m 0) (cell_place t m 1) (cell_place t m 2)
node_place t h m below = place-voxel (level_grid t (level_of t m)) (m - first_node t (level_of t m))
    (level_grid_limits t h (level_of t m)) (index-lt t m below)

-- the node of a place is a node of that level
pub node-on_level : (t : Chunking) (k x y z : ℕ) → k ≤ last_level t → IsPlace (level_grid t k) x y z
    → IsOnLevel t k (first_node t k + voxel_at (level_grid t k) x y z)
node-on_level t k x y z reached place = record {
  reached = reached;
  from = omega arith;
  to = omega (arith, voxel_at-lt (level_grid t k) x y z place);
}

-- the nodes of a level are nodes
pub on_level-lt : (t : Chunking) (k m : ℕ) → IsOnLevel t k m → m < node_count t
on_level-lt t k m on =
    omega (arith, on.to, first_node_le t (suc k) (suc (last_level t)) (omega (arith, on.reached)))

-- one cell of an axis, at places counted in cells of twice the length
half-lt : (i n : ℕ) → i < n → i / 2 < div_ceil n 2
half-lt i n below = omega arith

-- half a place, rounded down, is a place of the next level
pub half_place : (t : Chunking) → IsChunking t → (k x y z : ℕ) → IsPlace (level_grid t k) x y z
    → IsPlace (level_grid t (suc k)) (x / 2) (y / 2) (z / 2)
half_place t h k x y z place = record {
  in_x = rw (cells_on-suc t h k 0) (half-lt x (cells_on t k 0) place.in_x);
  in_y = rw (cells_on-suc t h k 1) (half-lt y (cells_on t k 1) place.in_y);
  in_z = rw (cells_on-suc t h k 2) (half-lt z (cells_on t k 2) place.in_z);
}

-- the cell that a voxel is in, on one axis
pub cell_of-lt : (t : Chunking) → IsChunking t → (k c x : ℕ) → x < length_on t.axes c → x / cell_length t k c < cells_on t k c
unfolding cells_on
cell_of-lt t h k c x below = div-lt-div_ceil x (length_on t.axes c) (cell_length t k c) below (cell_length_pos t h k c)

-- the cell of a voxel has a place
pub voxel_cell : (t : Chunking) → IsChunking t → (k v : ℕ) → v < voxel_count t.axes
    → IsPlace (level_grid t k)
    (coordinate t.axes v 0 / cell_length t k 0)
    (coordinate t.axes v 1 / cell_length t k 1)
    (coordinate t.axes v 2 / cell_length t k 2)
voxel_cell t h k v below =
    let place = place-voxel t.axes v h.limits below in
    record {
      in_x = cell_of-lt t h k 0 (coordinate t.axes v 0) place.in_x;
      in_y = cell_of-lt t h k 1 (coordinate t.axes v 1) place.in_y;
      in_z = cell_of-lt t h k 2 (coordinate t.axes v 2) place.in_z;
    }

-- a cell begins before its axis ends
pub cell_begins : (t : Chunking) → IsChunking t → (k c i : ℕ) → i < cells_on t k c → i * cell_length t k c < length_on t.axes c
unfolding cells_on
cell_begins t h k c i below = div_ceil-begins i (length_on t.axes c) (cell_length t k c) (cell_length_pos t h k c) below

-- the root alone is on the last level
pub root_by_level : (t : Chunking) → IsChunking t → (m : ℕ) → m < node_count t → level_of t m ≡ last_level t → m ≡ root t
root_by_level t h m below last =
    let from : first_node t (last_level t) ≤ m = subst (λ k. first_node t k ≤ m) last (on_level t m below).from in
    let to : m < first_node t (suc (last_level t)) = subst (λ k. m < first_node t (suc k)) last (on_level t m below).to in
    omega (arith, cells_at-last t h)

pub level_of-root : (t : Chunking) → IsChunking t → level_of t (root t) ≡ last_level t
level_of-root t h = level_of-is t (last_level t) (root t)
    (record { reached = omega arith; from = omega arith; to = omega (arith, cells_at_pos t h (last_level t)) })

-- ---- a level by its number

pub first_node-next : (t : Chunking) (k : ℕ) → first_node t (k + 1) ≡ first_node t k + cells_at t k
first_node-next t k = ap (first_node t) (add-one k)

pub level_grid-next : (t : Chunking) → IsChunking t → (k : ℕ)
    → level_grid t (k + 1) ≡ record { nx = div_ceil (cells_on t k 0) 2; ny = div_ceil (cells_on t k 1) 2; nz = div_ceil (cells_on t k 2) 2 }
level_grid-next t h k = ap (level_grid t) (add-one k) ∙ (λ i. record {
  nx = cells_on-suc t h k 0 i;
  ny = cells_on-suc t h k 1 i;
  nz = cells_on-suc t h k 2 i;
})

-- ---- the leaves

cell_length-leaf : (t : Chunking) (c : ℕ) → cell_length t 0 c ≡ length_on t.leaf c
cell_length-leaf t c = omega arith

cells_on-leaf : (t : Chunking) (c : ℕ) → cells_on t 0 c ≡ div_ceil (length_on t.axes c) (length_on t.leaf c)
unfolding cells_on
cells_on-leaf t c = ap (λ l. div_ceil (length_on t.axes c) l) (cell_length-leaf t c)

-- the leaves as a grid, from the lengths of the axes and of a leaf
pub level_grid-leaves : (a b : Axes) → level_grid (record { axes = a; leaf = b }) 0
    ≡ record { nx = div_ceil a.nx b.nx; ny = div_ceil a.ny b.ny; nz = div_ceil a.nz b.nz }
level_grid-leaves a b = λ i. record {
  nx = cells_on-leaf (record { axes = a; leaf = b }) 0 i;
  ny = cells_on-leaf (record { axes = a; leaf = b }) 1 i;
  nz = cells_on-leaf (record { axes = a; leaf = b }) 2 i;
}

-- it is within the limits of a volume's axes
pub leaves_limits : (a b : Axes) → IsWithinLimits a → IsWithinLimits b
    → IsWithinLimits (record { nx = div_ceil a.nx b.nx; ny = div_ceil a.ny b.ny; nz = div_ceil a.nz b.nz })
leaves_limits a b h g =
    let le_x = div_ceil_le a.nx b.nx h.some_x g.some_x in
    let le_y = div_ceil_le a.ny b.ny h.some_y g.some_y in
    let le_z = div_ceil_le a.nz b.nz h.some_z g.some_z in
    record {
      some_x = div_ceil_pos a.nx b.nx h.some_x g.some_x;
      some_y = div_ceil_pos a.ny b.ny h.some_y g.some_y;
      some_z = div_ceil_pos a.nz b.nz h.some_z g.some_z;
      most_x = omega (arith, le_x, h.most_x);
      most_y = omega (arith, le_y, h.most_y);
      most_z = omega (arith, le_z, h.most_z);
      most_voxels = omega (arith, h.most_voxels, mul-le-mul (mul-le-mul le_x le_y) le_z);
    }

-- the place of a voxel's leaf
pub leaf_place : (t : Chunking) → IsChunking t → (v : ℕ) → v < voxel_count t.axes
    → IsPlace (level_grid t 0) (coordinate t.axes v 0 / t.leaf.nx) (coordinate t.axes v 1 / t.leaf.ny) (coordinate t.axes v 2 / t.leaf.nz)
leaf_place t h v below =
    let place = voxel_cell t h 0 v below in
    record {
      in_x = subst (λ l. coordinate t.axes v 0 / l < cells_on t 0 0) (cell_length-leaf t 0) place.in_x;
      in_y = subst (λ l. coordinate t.axes v 1 / l < cells_on t 0 1) (cell_length-leaf t 1) place.in_y;
      in_z = subst (λ l. coordinate t.axes v 2 / l < cells_on t 0 2) (cell_length-leaf t 2) place.in_z;
    }

-- and its number
pub leaf_of-place : (t : Chunking) (v : ℕ)
    → voxel_at (level_grid t 0) (coordinate t.axes v 0 / t.leaf.nx) (coordinate t.axes v 1 / t.leaf.ny) (coordinate t.axes v 2 / t.leaf.nz)
    ≡ leaf_of t v
leaf_of-place t v =
    (λ i. voxel_at (level_grid t 0)
    (coordinate t.axes v 0 / sym (cell_length-leaf t 0) i)
    (coordinate t.axes v 1 / sym (cell_length-leaf t 1) i)
    (coordinate t.axes v 2 / sym (cell_length-leaf t 2) i))
    ∙ omega arith
