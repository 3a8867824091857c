-- The first child of a node begins where the node does, and ends at half of its length or where the node ends.
use Rattle.std.proofs.Common.{◌≡◌, ℕ, suc, ◌+◌, ◌*◌, ◌-◌, ◌%◌, ◌<◌, ◌≤◌, min, ap, sym, ◌∙◌, subst, arith}
use Rattle.std.specs.Int.{div_ceil}
use Rattle.std.proofs.Math.Nat.{zero-div, zero-mod, pow-suc}
use Rattle.agglo_model.specs.Axes.{Axes, IsPlace, voxel_at, coordinate}
use Rattle.agglo_model.specs.Cutting.{Chunking, IsChunking, length_on, cell_length, cells_on, level_grid, first_node, node_count, level_of, cell_place, cell_low, cell_high, children_grid, child_count, child}
use Rattle.agglo_model.proofs.Edges.{each_axis}
use Rattle.agglo_model.proofs.Levels.{cells_on-suc, cell_length_pos}
use Rattle.agglo_model.proofs.NodeCells.{node_place, cell_begins}
use Rattle.agglo_model.proofs.Places.{coordinate-voxel_at_x, coordinate-voxel_at_y, coordinate-voxel_at_z}
use Rattle.agglo_model.proofs.Cases.{twice_lt}
use Rattle.work_laws.proofs.Children.{is_inner, child_level}

-- the first place of a grid
no_coordinate : (a : Axes) (axis : ℕ) → axis < 3 → coordinate a 0 axis ≡ 0
no_coordinate a axis three = each_axis (λ k. coordinate a 0 k ≡ 0) axis three
    (zero-mod a.nx) (ap (λ n. n % a.ny) (zero-div a.nx) ∙ zero-mod a.ny) (zero-div (a.nx * a.ny))

high_half : (q l n : ℕ) → min ((2 * q + 1) * l) n ≤ min ((q + 1) * (l * 2)) n
high_half q l n =
    let more : (2 * q + 1) * l ≤ (2 * q + 2) * l = omega arith in
    let whole : (2 * q + 2) * l ≡ (q + 1) * (l * 2) = omega arith in
    omega arith

low_half : (q l n : ℕ) → 0 < l → q * (l * 2) < n → q * (l * 2) < min ((2 * q + 1) * l) n
low_half q l n some begins =
    let whole : (2 * q + 1) * l ≡ q * (l * 2) + l = omega arith in
    omega arith

module _ (c : Chunking) (h : IsChunking c) (m : ℕ) (node : m < node_count c) (some : 0 < child_count c m) where
  pub inner : 0 < level_of c m
  inner = is_inner c m some

  pub up : suc (level_of c m - 1) ≡ level_of c m
  up = let i = inner in omega arith

  -- the node's cell is twice as long
  pub longer : (axis : ℕ) → cell_length c (level_of c m) axis ≡ cell_length c (level_of c m - 1) axis * 2
  longer axis =
      ap (λ k. cell_length c k axis) (sym up)
      ∙ ap (λ p. length_on c.leaf axis * p) (pow-suc 2 (level_of c m - 1))
      ∙ omega arith

  twice_place : (axis : ℕ) → cell_place c m axis < cells_on c (level_of c m) axis
      → 2 * cell_place c m axis < cells_on c (level_of c m - 1) axis
  twice_place axis below =
      let cells : cells_on c (level_of c m) axis ≡ div_ceil (cells_on c (level_of c m - 1) axis) 2 =
      ap (λ k. cells_on c k axis) (sym up) ∙ cells_on-suc c h (level_of c m - 1) axis in
      twice_lt (cell_place c m axis) (cells_on c (level_of c m - 1) axis)
      (subst (λ n. cell_place c m axis < n) cells below)

  -- the place of the first child, by its index in the level
  first_index : (axis : ℕ) → cell_place c (child c m 0) axis
      ≡ coordinate (level_grid c (level_of c m - 1)) (voxel_at (level_grid c (level_of c m - 1))
      (2 * cell_place c m 0) (2 * cell_place c m 1) (2 * cell_place c m 2)) axis
  first_index axis =
      let grid = children_grid c m in
      let zero_x = no_coordinate grid 0 (omega arith) in
      let zero_y = no_coordinate grid 1 (omega arith) in
      let zero_z = no_coordinate grid 2 (omega arith) in
      let to_x : 2 * cell_place c m 0 + coordinate grid 0 0 ≡ 2 * cell_place c m 0 = omega arith in
      let to_y : 2 * cell_place c m 1 + coordinate grid 0 1 ≡ 2 * cell_place c m 1 = omega arith in
      let to_z : 2 * cell_place c m 2 + coordinate grid 0 2 ≡ 2 * cell_place c m 2 = omega arith in
      let index : child c m 0 - first_node c (level_of c m - 1) ≡ voxel_at (level_grid c (level_of c m - 1))
      (2 * cell_place c m 0 + coordinate grid 0 0) (2 * cell_place c m 1 + coordinate grid 0 1) (2 * cell_place c m 2 + coordinate grid 0 2) =
      omega arith in
      ap (λ k. coordinate (level_grid c k) (child c m 0 - first_node c k) axis) (child_level c h m node inner 0 some)
      ∙ ap (λ n. coordinate (level_grid c (level_of c m - 1)) n axis)
      (index ∙ (λ i. voxel_at (level_grid c (level_of c m - 1)) (to_x i) (to_y i) (to_z i)))

  pub first_place : (axis : ℕ) → axis < 3 → cell_place c (child c m 0) axis ≡ 2 * cell_place c m axis
  first_place axis three =
      let grid = level_grid c (level_of c m - 1) in
      let place = node_place c h m node in
      let x = 2 * cell_place c m 0 in
      let y = 2 * cell_place c m 1 in
      let z = 2 * cell_place c m 2 in
      let at : IsPlace grid x y z = record {
        in_x = twice_place 0 place.in_x;
        in_y = twice_place 1 place.in_y;
        in_z = twice_place 2 place.in_z;
      } in
      each_axis (λ k. cell_place c (child c m 0) k ≡ 2 * cell_place c m k) axis three
      (first_index 0 ∙ coordinate-voxel_at_x grid x y z at)
      (first_index 1 ∙ coordinate-voxel_at_y grid x y z at)
      (first_index 2 ∙ coordinate-voxel_at_z grid x y z at)

  -- where the first child ends
  pub first_high : (axis : ℕ) → axis < 3 → cell_high c (child c m 0) axis
      ≡ min ((2 * cell_place c m axis + 1) * cell_length c (level_of c m - 1) axis) (length_on c.axes axis)
  first_high axis three =
      (λ i. min ((first_place axis three i + 1) * cell_length c (child_level c h m node inner 0 some i) axis) (length_on c.axes axis))

  node_low : (axis : ℕ) → cell_low c m axis ≡ cell_place c m axis * (cell_length c (level_of c m - 1) axis * 2)
  node_low axis = ap (λ l. cell_place c m axis * l) (longer axis)

  node_high : (axis : ℕ) → cell_high c m axis
      ≡ min ((cell_place c m axis + 1) * (cell_length c (level_of c m - 1) axis * 2)) (length_on c.axes axis)
  node_high axis = ap (λ l. min ((cell_place c m axis + 1) * l) (length_on c.axes axis)) (longer axis)

  -- it ends in the node's cell, and not where that begins
  pub first_within : (axis : ℕ) → axis < 3 → cell_high c (child c m 0) axis ≤ cell_high c m axis
  first_within axis three =
      let half = high_half (cell_place c m axis) (cell_length c (level_of c m - 1) axis) (length_on c.axes axis) in
      let first = first_high axis three in
      let whole = node_high axis in
      omega (arith, half, first, whole)

  cell_starts : (axis : ℕ) → axis < 3 → cell_low c m axis < length_on c.axes axis
  cell_starts axis three =
      let place = node_place c h m node in
      each_axis (λ k. cell_low c m k < length_on c.axes k) axis three
      (cell_begins c h (level_of c m) 0 (cell_place c m 0) place.in_x)
      (cell_begins c h (level_of c m) 1 (cell_place c m 1) place.in_y)
      (cell_begins c h (level_of c m) 2 (cell_place c m 2) place.in_z)

  pub first_after : (axis : ℕ) → axis < 3 → cell_low c m axis < cell_high c (child c m 0) axis
  first_after axis three =
      let low = node_low axis in
      let starts = cell_starts axis three in
      let half = low_half (cell_place c m axis) (cell_length c (level_of c m - 1) axis) (length_on c.axes axis)
      (cell_length_pos c h (level_of c m - 1) axis) (omega (arith, low, starts)) in
      let first = first_high axis three in
      omega (arith, half, first, low)
