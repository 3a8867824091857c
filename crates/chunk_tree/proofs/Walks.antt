-- Walks from level to level.
use Rattle.std.proofs.Common.{◌≡◌, ℕ, suc, ◌+◌, ◌*◌, ◌-◌, ◌/◌, ◌^◌, ◌<◌, ◌≤◌, ◌≢◌, ◌==◌, min, List, [], ◌∷◌, get_or, Bool, true, false, cond, Option, Some, None, Fits, w32, inl, inr, refl, ap, sym, ◌∙◌, subst, add-one, arith}
use Rattle.std.specs.Int.{div_ceil}
use Rattle.std.proofs.lemmas.Bool.{cases_lt, ne_eqb}
use Rattle.std.proofs.lemmas.Bool.Decides.{nat_tests}
use Rattle.std.proofs.Math.Nat.{mul-le-mul, pow-le-pow_right}
use Rattle.agglo_model.specs.Axes.{Axes, IsWithinLimits, IsPlace, voxel_count, voxel_at, coordinate, place_of}
use Rattle.agglo_model.specs.Cutting.{Chunking, IsChunking, length_on, cell_length, cells_on, level_grid, cells_at, last_level, first_node, node_count, root, level_of, cell_place, children_grid, node_above, parent}
use Rattle.agglo_model.proofs.Levels.{on_level, level_of-is, cells_at-last, cells_at_pos, is_last_level, last_level_le, first_node_le, node_count-lt}
use Rattle.agglo_model.proofs.NodeCells.{first_node-next, level_grid-next, node_place, half_place, cell_begins, root_by_level, level_of-root, leaf_place}
use Rattle.agglo_model.proofs.Cases.{twice_lt}
use Rattle.chunk_tree.specs.declared.level.Level.{Level}
use Rattle.chunk_tree.specs.Levels.{IsLevel}

-- as many cells as the level has
pub cells_of : (t : Chunking) (level : Level) → IsLevel t level → voxel_count level.grid ≡ cells_at t level.number
cells_of t level is = ap voxel_count is.grid

-- the nodes up to a level's end are nodes, and numbered below 2^20
pub level_end_le : (t : Chunking) (level : Level) → IsLevel t level → level.first + voxel_count level.grid ≤ node_count t
level_end_le t level is = omega (
  arith,
  is.first,
  cells_of t level is,
  first_node_le t (suc level.number) (suc (last_level t)) (omega (arith, is.reached)),
)

pub level_end : (t : Chunking) (level : Level) → IsChunking t → IsLevel t level → level.first + voxel_count level.grid < 2 ^ 20
level_end t level h is = omega (arith, level_end_le t level is, node_count-lt t h)

-- the node after a level is the first of the next
pub level_end-is : (t : Chunking) (level : Level) → IsLevel t level → (voxels : ℕ) → voxels ≡ voxel_count level.grid
    → level.first + voxels ≡ first_node t (level.number + 1)
level_end-is t level is voxels is_voxels =
    sym (first_node-next t level.number ∙ (λ i. sym is.first i + sym (is_voxels ∙ cells_of t level is) i))

-- the next level
pub next_level : (t : Chunking) (level : Level) → IsChunking t → IsLevel t level → level.number < last_level t
    → (voxels nx ny nz : ℕ) → voxels ≡ voxel_count level.grid
    → nx ≡ div_ceil level.grid.nx 2 → ny ≡ div_ceil level.grid.ny 2 → nz ≡ div_ceil level.grid.nz 2
    → (grid : Axes) → grid ≡ record { nx = nx; ny = ny; nz = nz }
    → IsLevel t (record { number = level.number + 1; first = level.first + voxels; grid = grid })
next_level t level h is inner voxels nx ny nz is_voxels is_x is_y is_z grid is_grid = record {
  reached = omega arith;
  first = level_end-is t level is voxels is_voxels;
  grid = is_grid
      ∙ (λ i. record {
        nx = (is_x ∙ ap (λ (a : Axes). div_ceil a.nx 2) is.grid) i;
        ny = (is_y ∙ ap (λ (a : Axes). div_ceil a.ny 2) is.grid) i;
        nz = (is_z ∙ ap (λ (a : Axes). div_ceil a.nz 2) is.grid) i;
      })
      ∙ sym (level_grid-next t h level.number);
}

-- a level of more than one cell is not the last
pub inner_by_cells : (t : Chunking) (level : Level) → IsChunking t → IsLevel t level → 1 < voxel_count level.grid
    → level.number < last_level t
inner_by_cells t level h is more = elim (cases_lt level.number (last_level t)) [
  | inl lt ↦ lt
  | inr ge ↦ (let last : level.number ≡ last_level t = omega (arith, is.reached) in
      absurd (omega (arith, more, cells_of t level is ∙ ap (cells_at t) last ∙ cells_at-last t h)))
]

-- a level of one cell is
pub last_by_cells : (t : Chunking) (level : Level) → IsChunking t → IsLevel t level → voxel_count level.grid ≤ 1
    → level.number ≡ last_level t
last_by_cells t level h is few =
    is_last_level t h level.number is.reached (omega (arith, cells_of t level is, cells_at_pos t h level.number))

-- a level that ends before some node is not the last
pub inner_by_node : (t : Chunking) (level : Level) (m : ℕ) → IsLevel t level → m < node_count t
    → level.first + voxel_count level.grid ≤ m → level.number < last_level t
inner_by_node t level m is below ends = elim (cases_lt level.number (last_level t)) [
  | inl lt ↦ lt
  | inr ge ↦ (let last : level.number ≡ last_level t = omega (arith, is.reached) in
      let count : node_count t ≡ level.first + voxel_count level.grid =
      sym (λ i. (is.first ∙ ap (first_node t) last) i + (cells_of t level is ∙ ap (cells_at t) last) i) in
      absurd (omega arith))
]

-- a level that holds a node is that node's
pub level_by_node : (t : Chunking) (level : Level) (m : ℕ) → IsLevel t level → level.first ≤ m
    → m < level.first + voxel_count level.grid → level.number ≡ level_of t m
level_by_node t level m is from to = sym (level_of-is t level.number m (record {
  reached = is.reached;
  from = omega (arith, is.first);
  to = omega (arith, is.first, cells_of t level is);
}))

-- the first node after a level
pub next_first : (t : Chunking) (level next : Level) → IsLevel t level → IsLevel t next → next.number ≡ level.number + 1
    → next.first ≡ level.first + voxel_count level.grid
next_first t level next is is_next number =
    is_next.first ∙ ap (first_node t) number ∙ first_node-next t level.number
    ∙ sym (λ i. is.first i + cells_of t level is i)

-- the nodes before the last level's end are all nodes
pub nodes_by_last : (t : Chunking) (level : Level) → IsChunking t → IsLevel t level → level.number ≡ last_level t
    → level.first + 1 ≡ node_count t
nodes_by_last t level h is last =
    (λ i. (is.first ∙ ap (first_node t) last) i + sym (cells_at-last t h) i)

-- a node on a level of one cell is the root
pub root_by_cells : (t : Chunking) (level : Level) (m : ℕ) → IsChunking t → IsLevel t level → level.number ≡ level_of t m
    → m < node_count t → voxel_count level.grid ≡ 1 → m ≡ root t
root_by_cells t level m h is same below one =
    root_by_level t h m below (sym same ∙ last_by_cells t level h is (omega arith))

-- the places of a node's cell, as read off its level's grid
pub record HasPlace (t : Chunking) (m : ℕ) (place : List ℕ) : Type 0 where
  pub x : get_or place 0 0 ≡ cell_place t m 0
  pub y : get_or place 1 0 ≡ cell_place t m 1
  pub z : get_or place 2 0 ≡ cell_place t m 2

pub has_place : (t : Chunking) (level : Level) (m : ℕ) → IsLevel t level → level.number ≡ level_of t m
    → (place : List ℕ) → place ≡ place_of level.grid (m - level.first) → HasPlace t m place
has_place t level m is same place read = record {
  x = ap (λ p. get_or p 0 0) read ∙ (λ i. coordinate (grid i) (m - before i) 0);
  y = ap (λ p. get_or p 1 0) read ∙ (λ i. coordinate (grid i) (m - before i) 1);
  z = ap (λ p. get_or p 2 0) read ∙ (λ i. coordinate (grid i) (m - before i) 2);
}
  where
    grid : level.grid ≡ level_grid t (level_of t m)
    grid = is.grid ∙ ap (level_grid t) same

    before : level.first ≡ first_node t (level_of t m)
    before = is.first ∙ ap (first_node t) same

-- it is a place of that grid
pub place_on_level : (t : Chunking) (m : ℕ) → IsChunking t → m < node_count t
    → (place : List ℕ) → HasPlace t m place
    → IsPlace (level_grid t (level_of t m)) (get_or place 0 0) (get_or place 1 0) (get_or place 2 0)
place_on_level t m h below place has =
    let own = node_place t h m below in
    record {
      in_x = omega (arith, own.in_x, has.x);
      in_y = omega (arith, own.in_y, has.y);
      in_z = omega (arith, own.in_z, has.z);
    }

-- cells are no longer than a number of 32 bits
pub scale_le : (t : Chunking) (k : ℕ) → IsChunking t → k ≤ last_level t → 2 ^ k ≤ 65536
scale_le t k h reached =
    let le : k ≤ 16 = omega (arith, last_level_le t h) in
    pow-le-pow_right {n = 2} (omega arith) le

pub length_fits : (n scale : ℕ) → n ≤ 65535 → scale ≤ 65536 → Fits w32 (n * scale)
length_fits n scale most_n most_scale = omega (arith, mul-le-mul most_n most_scale)

-- a node's cell begins before its axis ends
pub begins_before_end : (t : Chunking) (m c : ℕ) → IsChunking t → (k i leaf scale axis : ℕ) → k ≡ level_of t m
    → i < cells_on t (level_of t m) c
    → leaf ≡ length_on t.leaf c → scale ≡ 2 ^ k → axis ≡ length_on t.axes c → i * (leaf * scale) < axis
begins_before_end t m c h k i leaf scale axis is_k below is_leaf is_scale is_axis =
    let same : i * (leaf * scale) ≡ i * cell_length t (level_of t m) c =
    (λ j. i * (is_leaf j * (is_scale ∙ ap (λ l. 2 ^ l) is_k) j)) in
    omega (arith, cell_begins t h (level_of t m) c i below)

pub children_begin : (t : Chunking) (m : ℕ) (level : Level) → IsChunking t → m < node_count t → IsLevel t level
    → suc level.number ≡ level_of t m → (place : List ℕ) → HasPlace t m place
    → IsPlace level.grid (2 * get_or place 0 0) (2 * get_or place 1 0) (2 * get_or place 2 0)
children_begin t m level h below is next place has =
    let own = place_on_level t m h below place has in
    let grid : level_grid t (level_of t m) ≡ record { nx = div_ceil level.grid.nx 2; ny = div_ceil level.grid.ny 2; nz = div_ceil level.grid.nz 2 } =
    ap (level_grid t) (sym (add-one level.number ∙ next)) ∙ level_grid-next t h level.number
    ∙ ap (λ (a : Axes). the_half a) (sym is.grid) in
    record {
      in_x = twice_lt (get_or place 0 0) level.grid.nx (subst (λ (a : Axes). get_or place 0 0 < a.nx) grid own.in_x);
      in_y = twice_lt (get_or place 1 0) level.grid.ny (subst (λ (a : Axes). get_or place 1 0 < a.ny) grid own.in_y);
      in_z = twice_lt (get_or place 2 0) level.grid.nz (subst (λ (a : Axes). get_or place 2 0 < a.nz) grid own.in_z);
    }
  where
    the_half : Axes → Axes
    the_half = λ a. record { nx = div_ceil a.nx 2; ny = div_ceil a.ny 2; nz = div_ceil a.nz 2 }

-- a grid of one or two cells on each axis
pub small_limits : (x y z : ℕ) → 0 < x → 0 < y → 0 < z → x ≤ 2 → y ≤ 2 → z ≤ 2
    → IsWithinLimits (record { nx = x; ny = y; nz = z })
small_limits x y z some_x some_y some_z most_x most_y most_z = record {
  some_x = some_x;
  some_y = some_y;
  some_z = some_z;
  most_x = omega arith;
  most_y = omega arith;
  most_z = omega arith;
  most_voxels = omega (arith, mul-le-mul (mul-le-mul most_x most_y) most_z);
}

-- at most eight children
pub most_children : (t : Chunking) (m : ℕ) → voxel_count (children_grid t m) ≤ 8
most_children t m = omega (arith, mul-le-mul (mul-le-mul (pair_le (left 0)) (pair_le (left 1))) (pair_le (left 2)))
  where
    left : ℕ → ℕ
    left = λ c. cells_on t (level_of t m - 1) c - 2 * cell_place t m c

    pair_le : (n : ℕ) → min 2 n ≤ 2
    pair_le n = omega arith

-- a node of the level below a node's comes before it
pub below_node : (t : Chunking) (m : ℕ) (level : Level) (x : ℕ) → IsLevel t level → m < node_count t
    → suc level.number ≡ level_of t m → x < voxel_count level.grid → level.first + x < m
below_node t m level x is below next inside =
    omega (arith, is.first, cells_of t level is, (on_level t m below).from, ap (first_node t) next)

-- ---- parents

by_test : (b : Bool) (x : Option ℕ) → b ≡ true → None ≡ cond b None x
by_test true x is = refl
by_test false x is = cc

by_other_test : (b : Bool) (x : Option ℕ) → b ≡ false → x ≡ cond b None x
by_other_test true x is = cc
by_other_test false x is = refl

-- the root has no parent
pub parent-root : (t : Chunking) (m : ℕ) → m ≡ root t → None ≡ parent t m
parent-root t m is = by_test (m == root t) (Some (node_above t m)) (grind (arith, nat_tests))

-- a level of one cell is the root's; of more, it is not the last
pub inner_by_test : (t : Chunking) (level : Level) → IsChunking t → IsLevel t level → voxel_count level.grid ≢ 1
    → level.number < last_level t
inner_by_test t level h is more =
    inner_by_cells t level h is (omega (arith, cells_of t level is, cells_at_pos t h level.number))

-- the parent's place is one of the next level's grid
pub parent_place : (t : Chunking) (m : ℕ) (next : Level) → IsChunking t → m < node_count t → IsLevel t next
    → next.number ≡ suc (level_of t m) → (place : List ℕ) → HasPlace t m place
    → IsPlace next.grid (get_or place 0 0 / 2) (get_or place 1 0 / 2) (get_or place 2 0 / 2)
parent_place t m next h below is number place has =
    subst (λ (a : Axes). IsPlace a (get_or place 0 0 / 2) (get_or place 1 0 / 2) (get_or place 2 0 / 2))
    (sym (is.grid ∙ ap (level_grid t) number))
    (half_place t h (level_of t m) (get_or place 0 0) (get_or place 1 0) (get_or place 2 0)
    (place_on_level t m h below place has))

-- and its number is the parent's
pub parent-is : (t : Chunking) (m : ℕ) (next : Level) → IsChunking t → IsLevel t next
    → next.number ≡ suc (level_of t m) → (place : List ℕ) → HasPlace t m place → (index : ℕ)
    → index ≡ voxel_at next.grid (get_or place 0 0 / 2) (get_or place 1 0 / 2) (get_or place 2 0 / 2)
    → Some (next.first + index) ≡ parent t m
parent-is t m next h is number place has index is_index =
    (λ i. Some (before i + (is_index ∙ (λ j. voxel_at (grid j) (has.x j / 2) (has.y j / 2) (has.z j / 2))) i))
    ∙ by_other_test (m == root t) (Some (node_above t m)) inner
  where
    grid : next.grid ≡ level_grid t (suc (level_of t m))
    grid = is.grid ∙ ap (level_grid t) number

    before : next.first ≡ first_node t (suc (level_of t m))
    before = is.first ∙ ap (first_node t) number

    not_root : m ≢ root t
    not_root same = omega (arith, ap (level_of t) same, level_of-root t h, number, is.reached)

    inner : (m == root t) ≡ false
    inner = ne_eqb m (root t) not_root

-- a node of the next level comes after a node
pub above_node : (t : Chunking) (m : ℕ) (next : Level) (x : ℕ) → m < node_count t → IsLevel t next
    → next.number ≡ suc (level_of t m) → x < voxel_count next.grid
    → (m < next.first + x) × (next.first + x < node_count t)
above_node t m next x below is number inside = (
  omega (arith, is.first ∙ ap (first_node t) number, (on_level t m below).to),
  omega (arith, level_end_le t next is),
)

-- ---- leaves

-- the place of a voxel's leaf, as read off the axes
pub leaf_place_at : (t : Chunking) (v : ℕ) → IsChunking t → v < voxel_count t.axes → (leaves : Axes) → leaves ≡ level_grid t 0
    → (place : List ℕ) → place ≡ place_of t.axes v → (nx ny nz : ℕ) → nx ≡ t.leaf.nx → ny ≡ t.leaf.ny → nz ≡ t.leaf.nz
    → IsPlace leaves (get_or place 0 0 / nx) (get_or place 1 0 / ny) (get_or place 2 0 / nz)
leaf_place_at t v h below leaves is_leaves place read nx ny nz is_x is_y is_z =
    subst (λ (p : Axes × List ℕ × List ℕ). IsPlace p.0 (get_or p.1 0 0 / get_or p.2 0 0) (get_or p.1 1 0 / get_or p.2 1 0) (get_or p.1 2 0 / get_or p.2 2 0))
    (λ i. (sym is_leaves i, sym read i, sym is_x i ∷ sym is_y i ∷ sym is_z i ∷ []))
    (leaf_place t h v below)
