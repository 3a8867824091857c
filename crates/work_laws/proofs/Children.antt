-- The children of a node: their cells make up the node's cell, each voxel in one of them.
use Rattle.std.proofs.Common.{◌≡◌, ℕ, suc, ◌+◌, ◌*◌, ◌-◌, ◌/◌, ◌<◌, ◌≤◌, min, ◌==◌, true, cond, sym, ap, ◌∙◌, subst, add_left_cancel, arith}
use Rattle.std.specs.Int.{div_ceil}
use Rattle.std.proofs.Math.Nat.{mul-le-mul}
use Rattle.agglo_model.specs.Axes.{IsWithinLimits, IsPlace, voxel_count, voxel_at, coordinate}
use Rattle.agglo_model.specs.Cutting.{Chunking, IsChunking, cell_length, cells_on, level_grid, first_node, node_count, level_of, cell_place, node_at, node_above, children_on, children_grid, child_count, child}
use Rattle.agglo_model.specs.Freezing.{is_held}
use Rattle.agglo_model.proofs.Places.{voxel_at-lt, place-voxel, voxel_at-place, coordinate-voxel_at_x, coordinate-voxel_at_y, coordinate-voxel_at_z}
use Rattle.agglo_model.proofs.Levels.{IsOnLevel, on_level, level_of-is, cells_on-suc}
use Rattle.agglo_model.proofs.NodeCells.{node_place, node-on_level, on_level-lt, voxel_cell, level_of-root}
use Rattle.agglo_model.proofs.Freezing.{held_voxel, held_node, held_from}
use Rattle.agglo_model.proofs.CellBoxes.{node-coordinates}
use Rattle.agglo_model.proofs.NodeNesting.{IsParent, parent_greater, parent_holds, half_of_cell}
use Rattle.agglo_model.proofs.Cases.{twice_lt}

-- a node with children is no leaf
some_children : (k n : ℕ) → 0 < cond (k == 0) 0 n → (0 < k) × (0 < n)
some_children k n some = grind arith

children_of : (k n : ℕ) → 0 < k → cond (k == 0) 0 n ≡ n
children_of k n some = grind arith

child-lt : (q x n : ℕ) → x < min 2 (n - 2 * q) → 2 * q + x < n
child-lt q x n below = omega arith

child_half : (q x n : ℕ) → x < min 2 (n - 2 * q) → (2 * q + x) / 2 ≡ q
child_half q x n below = omega arith

half_rest : (p q n : ℕ) → p / 2 ≡ q → p < n → (p - 2 * q < min 2 (n - 2 * q)) × (2 * q + (p - 2 * q) ≡ p)
half_rest p q n half below = (omega arith, omega arith)

few_children : (x y z : ℕ) → x ≤ 2 → y ≤ 2 → z ≤ 2 → x * y * z ≤ 268435456
few_children x y z few_x few_y few_z = omega (arith, mul-le-mul (mul-le-mul few_x few_y) few_z)

pub is_inner : (c : Chunking) (m : ℕ) → 0 < child_count c m → 0 < level_of c m
is_inner c m some = (some_children (level_of c m) (voxel_count (children_grid c m)) some).0

module _ (c : Chunking) (h : IsChunking c) (m : ℕ) (node : m < node_count c) (inner : 0 < level_of c m) where
  up : suc (level_of c m - 1) ≡ level_of c m
  up = omega arith

  twice_place : (axis : ℕ) → cell_place c m axis < cells_on c (level_of c m) axis
      → 2 * cell_place c m axis < cells_on c (level_of c m - 1) axis
  twice_place axis below =
      let cells : cells_on c (level_of c m) axis ≡ div_ceil (cells_on c (level_of c m - 1) axis) 2 =
      ap (λ k. cells_on c k axis) (sym up) ∙ cells_on-suc c h (level_of c m - 1) axis in
      twice_lt (cell_place c m axis) (cells_on c (level_of c m - 1) axis)
      (subst (λ n. cell_place c m axis < n) cells below)

  children_limits : IsWithinLimits (children_grid c m)
  children_limits =
      let place = node_place c h m node in
      let x = twice_place 0 place.in_x in
      let y = twice_place 1 place.in_y in
      let z = twice_place 2 place.in_z in
      record {
        some_x = omega arith;
        some_y = omega arith;
        some_z = omega arith;
        most_x = omega arith;
        most_y = omega arith;
        most_z = omega arith;
        most_voxels = few_children (children_on c m 0) (children_on c m 1) (children_on c m 2) (omega arith) (omega arith) (omega arith);
      }

  child_offset : (i : ℕ) → i < child_count c m
      → IsPlace (children_grid c m) (coordinate (children_grid c m) i 0) (coordinate (children_grid c m) i 1) (coordinate (children_grid c m) i 2)
  child_offset i below = place-voxel (children_grid c m) i children_limits
      (subst (λ n. i < n) (children_of (level_of c m) (voxel_count (children_grid c m)) inner) below)

  child_at : (i : ℕ) → i < child_count c m → IsPlace (level_grid c (level_of c m - 1))
      (2 * cell_place c m 0 + coordinate (children_grid c m) i 0)
      (2 * cell_place c m 1 + coordinate (children_grid c m) i 1)
      (2 * cell_place c m 2 + coordinate (children_grid c m) i 2)
  child_at i below =
      let place = child_offset i below in
      record {
        in_x = child-lt (cell_place c m 0) (coordinate (children_grid c m) i 0) (cells_on c (level_of c m - 1) 0) place.in_x;
        in_y = child-lt (cell_place c m 1) (coordinate (children_grid c m) i 1) (cells_on c (level_of c m - 1) 1) place.in_y;
        in_z = child-lt (cell_place c m 2) (coordinate (children_grid c m) i 2) (cells_on c (level_of c m - 1) 2) place.in_z;
      }

  child_on : (i : ℕ) → i < child_count c m → IsOnLevel c (level_of c m - 1) (child c m i)
  child_on i below =
      let reached = (on_level c m node).reached in
      node-on_level c (level_of c m - 1)
      (2 * cell_place c m 0 + coordinate (children_grid c m) i 0)
      (2 * cell_place c m 1 + coordinate (children_grid c m) i 1)
      (2 * cell_place c m 2 + coordinate (children_grid c m) i 2) (omega arith) (child_at i below)

  pub child_below : (i : ℕ) → i < child_count c m → child c m i < node_count c
  child_below i below = on_level-lt c (level_of c m - 1) (child c m i) (child_on i below)

  pub child_level : (i : ℕ) → i < child_count c m → level_of c (child c m i) ≡ level_of c m - 1
  child_level i below = level_of-is c (level_of c m - 1) (child c m i) (child_on i below)

  -- the place of a child, by its index in the level
  child_index : (i axis : ℕ) → i < child_count c m → cell_place c (child c m i) axis
      ≡ coordinate (level_grid c (level_of c m - 1)) (voxel_at (level_grid c (level_of c m - 1))
      (2 * cell_place c m 0 + coordinate (children_grid c m) i 0)
      (2 * cell_place c m 1 + coordinate (children_grid c m) i 1)
      (2 * cell_place c m 2 + coordinate (children_grid c m) i 2)) axis
  child_index i axis below =
      let index : child c m i - first_node c (level_of c m - 1) ≡ voxel_at (level_grid c (level_of c m - 1))
      (2 * cell_place c m 0 + coordinate (children_grid c m) i 0)
      (2 * cell_place c m 1 + coordinate (children_grid c m) i 1)
      (2 * cell_place c m 2 + coordinate (children_grid c m) i 2) = omega arith in
      ap (λ k. coordinate (level_grid c k) (child c m i - first_node c k) axis) (child_level i below)
      ∙ ap (λ n. coordinate (level_grid c (level_of c m - 1)) n axis) index

  child_place_x : (i : ℕ) → i < child_count c m
      → cell_place c (child c m i) 0 ≡ 2 * cell_place c m 0 + coordinate (children_grid c m) i 0
  child_place_x i below =
      child_index i 0 below
      ∙ coordinate-voxel_at_x (level_grid c (level_of c m - 1))
      (2 * cell_place c m 0 + coordinate (children_grid c m) i 0)
      (2 * cell_place c m 1 + coordinate (children_grid c m) i 1)
      (2 * cell_place c m 2 + coordinate (children_grid c m) i 2) (child_at i below)

  pub child_half_x : (i : ℕ) → i < child_count c m → cell_place c (child c m i) 0 / 2 ≡ cell_place c m 0
  child_half_x i below =
      ap (λ p. p / 2) (child_place_x i below)
      ∙ child_half (cell_place c m 0) (coordinate (children_grid c m) i 0) (cells_on c (level_of c m - 1) 0) (child_offset i below).in_x

  child_place_y : (i : ℕ) → i < child_count c m
      → cell_place c (child c m i) 1 ≡ 2 * cell_place c m 1 + coordinate (children_grid c m) i 1
  child_place_y i below =
      child_index i 1 below
      ∙ coordinate-voxel_at_y (level_grid c (level_of c m - 1))
      (2 * cell_place c m 0 + coordinate (children_grid c m) i 0)
      (2 * cell_place c m 1 + coordinate (children_grid c m) i 1)
      (2 * cell_place c m 2 + coordinate (children_grid c m) i 2) (child_at i below)

  pub child_half_y : (i : ℕ) → i < child_count c m → cell_place c (child c m i) 1 / 2 ≡ cell_place c m 1
  child_half_y i below =
      ap (λ p. p / 2) (child_place_y i below)
      ∙ child_half (cell_place c m 1) (coordinate (children_grid c m) i 1) (cells_on c (level_of c m - 1) 1) (child_offset i below).in_y

  child_place_z : (i : ℕ) → i < child_count c m
      → cell_place c (child c m i) 2 ≡ 2 * cell_place c m 2 + coordinate (children_grid c m) i 2
  child_place_z i below =
      child_index i 2 below
      ∙ coordinate-voxel_at_z (level_grid c (level_of c m - 1))
      (2 * cell_place c m 0 + coordinate (children_grid c m) i 0)
      (2 * cell_place c m 1 + coordinate (children_grid c m) i 1)
      (2 * cell_place c m 2 + coordinate (children_grid c m) i 2) (child_at i below)

  pub child_half_z : (i : ℕ) → i < child_count c m → cell_place c (child c m i) 2 / 2 ≡ cell_place c m 2
  child_half_z i below =
      ap (λ p. p / 2) (child_place_z i below)
      ∙ child_half (cell_place c m 2) (coordinate (children_grid c m) i 2) (cells_on c (level_of c m - 1) 2) (child_offset i below).in_z

  child_above : (i : ℕ) → i < child_count c m → node_above c (child c m i) ≡ m
  child_above i below =
      let level : suc (level_of c (child c m i)) ≡ level_of c m = ap suc (child_level i below) ∙ up in
      let x = child_half_x i below in
      let y = child_half_y i below in
      let z = child_half_z i below in
      let there : node_above c (child c m i) ≡ first_node c (level_of c m)
      + voxel_at (level_grid c (level_of c m)) (cell_place c m 0) (cell_place c m 1) (cell_place c m 2) =
      λ j. first_node c (level j) + voxel_at (level_grid c (level j)) (x j) (y j) (z j) in
      let back = voxel_at-place (level_grid c (level_of c m)) (m - first_node c (level_of c m)) in
      omega (arith, there, back, (on_level c m node).from)

  -- node m is the parent of each of its children
  pub child_parent : (i : ℕ) → i < child_count c m → IsParent c (child c m i) m
  child_parent i below = record {
    not_root = λ root_is.
        let last = ap (level_of c) root_is ∙ level_of-root c h in
        let reached = (on_level c m node).reached in
        let level = child_level i below in
        omega arith;
    above = child_above i below;
  }

  pub child_before : (i : ℕ) → i < child_count c m → child c m i < m
  child_before i below = parent_greater c h (child c m i) m (child_below i below) (child_parent i below)

  -- ---- the child of a voxel

  voxel_half : (axis v : ℕ) → coordinate c.axes v axis / cell_length c (level_of c m) axis ≡ cell_place c m axis
      → coordinate c.axes v axis / cell_length c (level_of c m - 1) axis / 2 ≡ cell_place c m axis
  voxel_half axis v at =
      sym (half_of_cell c (level_of c m - 1) axis (coordinate c.axes v axis))
      ∙ ap (λ k. coordinate c.axes v axis / cell_length c k axis) up ∙ at

  -- each voxel of the cell is in the cell of the node's child that is the voxel's node on the level below
  pub child_of : (v : ℕ) → is_held c m v ≡ true
      → (i : ℕ) × (i < child_count c m) × (child c m i ≡ node_at c (level_of c m - 1) v)
  child_of v held =
      let below = held_voxel c m v held in
      let at = node-coordinates c h m v node below (held_node c m v held) in
      let place = voxel_cell c h (level_of c m - 1) v below in
      let grid = children_grid c m in
      let px = coordinate c.axes v 0 / cell_length c (level_of c m - 1) 0 in
      let py = coordinate c.axes v 1 / cell_length c (level_of c m - 1) 1 in
      let pz = coordinate c.axes v 2 / cell_length c (level_of c m - 1) 2 in
      let x = half_rest px (cell_place c m 0) (cells_on c (level_of c m - 1) 0) (voxel_half 0 v at.in_x) place.in_x in
      let y = half_rest py (cell_place c m 1) (cells_on c (level_of c m - 1) 1) (voxel_half 1 v at.in_y) place.in_y in
      let z = half_rest pz (cell_place c m 2) (cells_on c (level_of c m - 1) 2) (voxel_half 2 v at.in_z) place.in_z in
      let dx = px - 2 * cell_place c m 0 in
      let dy = py - 2 * cell_place c m 1 in
      let dz = pz - 2 * cell_place c m 2 in
      let offset : IsPlace grid dx dy dz = record { in_x = x.0; in_y = y.0; in_z = z.0 } in
      let i = voxel_at grid dx dy dz in
      let to_x : 2 * cell_place c m 0 + coordinate grid i 0 ≡ px =
      ap (λ d. 2 * cell_place c m 0 + d) (coordinate-voxel_at_x grid dx dy dz offset) ∙ x.1 in
      let to_y : 2 * cell_place c m 1 + coordinate grid i 1 ≡ py =
      ap (λ d. 2 * cell_place c m 1 + d) (coordinate-voxel_at_y grid dx dy dz offset) ∙ y.1 in
      let to_z : 2 * cell_place c m 2 + coordinate grid i 2 ≡ pz =
      ap (λ d. 2 * cell_place c m 2 + d) (coordinate-voxel_at_z grid dx dy dz offset) ∙ z.1 in (
        i,
        subst (λ n. i < n) (sym (children_of (level_of c m) (voxel_count grid) inner)) (voxel_at-lt grid dx dy dz offset),
        (λ j. first_node c (level_of c m - 1) + voxel_at (level_grid c (level_of c m - 1)) (to_x j) (to_y j) (to_z j)),
      )

  pub child_holds : (v i : ℕ) → i < child_count c m → is_held c m v ≡ true → child c m i ≡ node_at c (level_of c m - 1) v
      → is_held c (child c m i) v ≡ true
  child_holds v i below held is =
      held_from c (child c m i) v (held_voxel c m v held)
      (ap (λ k. node_at c k v) (child_level i below) ∙ sym is)

  -- no two children are one node
  pub one_child : (i j : ℕ) → i < child_count c m → j < child_count c m → child c m i ≡ child c m j → i ≡ j
  one_child i j below_i below_j same =
      let x = sym (child_place_x i below_i) ∙ ap (λ k. cell_place c k 0) same ∙ child_place_x j below_j in
      let y = sym (child_place_y i below_i) ∙ ap (λ k. cell_place c k 1) same ∙ child_place_y j below_j in
      let z = sym (child_place_z i below_i) ∙ ap (λ k. cell_place c k 2) same ∙ child_place_z j below_j in
      let dx : coordinate (children_grid c m) i 0 ≡ coordinate (children_grid c m) j 0 =
      add_left_cancel (2 * cell_place c m 0) x in
      let dy : coordinate (children_grid c m) i 1 ≡ coordinate (children_grid c m) j 1 =
      add_left_cancel (2 * cell_place c m 1) y in
      let dz : coordinate (children_grid c m) i 2 ≡ coordinate (children_grid c m) j 2 =
      add_left_cancel (2 * cell_place c m 2) z in
      sym (voxel_at-place (children_grid c m) i)
      ∙ (λ k. voxel_at (children_grid c m) (dx k) (dy k) (dz k))
      ∙ voxel_at-place (children_grid c m) j

  -- the node of the level below at a voxel of a child's cell is the child
  pub child_node : (v i : ℕ) → i < child_count c m → is_held c (child c m i) v ≡ true
      → node_at c (level_of c m - 1) v ≡ child c m i
  child_node v i below held =
      ap (λ k. node_at c k v) (sym (child_level i below)) ∙ held_node c (child c m i) v held

  -- a child's cell is in the node's
  pub child_within : (v i : ℕ) → i < child_count c m → is_held c (child c m i) v ≡ true → is_held c m v ≡ true
  child_within v i below held =
      parent_holds c h (child c m i) m v (child_below i below) (child_parent i below) held
