-- The cell of a node as a box: a voxel is in the cell exactly where its coordinates are in the box's ranges.
use Rattle.std.proofs.Common.{◌≡◌, ℕ, ◌+◌, ◌*◌, ◌-◌, ◌/◌, ◌<◌, ◌≤◌, min, sym, ap, ◌∙◌, subst, arith}
use Rattle.std.proofs.Math.Nat.{div-lt_iff_lt-mul, div-mul-le_self}
use Rattle.std.proofs.lemmas.Nat.{le-div}
use Rattle.agglo_model.specs.Axes.{voxel_count, voxel_at, coordinate}
use Rattle.agglo_model.specs.Cell.{IsInBox}
use Rattle.agglo_model.specs.Cutting.{Chunking, IsChunking, cell_length, level_grid, first_node, node_count, level_of, cell_place, low_corner, high_corner, node_at}
use Rattle.agglo_model.specs.NodeLaws.{CellsAreBoxes}
use Rattle.agglo_model.proofs.Places.{place-voxel, voxel_at-place, coordinate-voxel_at_x, coordinate-voxel_at_y, coordinate-voxel_at_z}
use Rattle.agglo_model.proofs.Levels.{cell_length_pos, on_level}
use Rattle.agglo_model.proofs.NodeCells.{voxel_cell}
use Rattle.agglo_model.proofs.Freezing.{held_node, held_from}

-- a number's quotient, by the range of the numbers that have it
pub quotient_range : (x n l q : ℕ) → 0 < l → x < n → x / l ≡ q → (q * l ≤ x) × (x < min ((q + 1) * l) n)
quotient_range x n l q some below is =
    let low : x / l * l ≤ x = div-mul-le_self x l in
    let high : x < (x / l + 1) * l = (div-lt_iff_lt-mul some).0 (omega arith) in
    let low_q : q * l ≤ x = subst (λ p. p * l ≤ x) is low in
    let high_q : x < (q + 1) * l = subst (λ p. x < (p + 1) * l) is high in
    (low_q, omega arith)

pub quotient_from_range : (x n l q : ℕ) → 0 < l → q * l ≤ x → x < min ((q + 1) * l) n → x / l ≡ q
quotient_from_range x n l q some low high =
    let up : q ≤ x / l = le-div q x l some low in
    let below : x / l < q + 1 = (div-lt_iff_lt-mul some).1 (omega arith) in
    omega arith

-- the quotients of a voxel's coordinates are the place of the cell of a node
pub record IsAtPlace (c : Chunking) (m v : ℕ) : Type 0 where
  pub in_x : coordinate c.axes v 0 / cell_length c (level_of c m) 0 ≡ cell_place c m 0
  pub in_y : coordinate c.axes v 1 / cell_length c (level_of c m) 1 ≡ cell_place c m 1
  pub in_z : coordinate c.axes v 2 / cell_length c (level_of c m) 2 ≡ cell_place c m 2

-- the node of a voxel's place on a level
pub node-coordinates : (c : Chunking) → IsChunking c → (m v : ℕ) → m < node_count c → v < voxel_count c.axes
    → node_at c (level_of c m) v ≡ m → IsAtPlace c m v
node-coordinates c h m v node below is =
    let k = level_of c m in
    let grid = level_grid c k in
    let x = coordinate c.axes v 0 / cell_length c k 0 in
    let y = coordinate c.axes v 1 / cell_length c k 1 in
    let z = coordinate c.axes v 2 / cell_length c k 2 in
    let place = voxel_cell c h k v below in
    let index : voxel_at grid x y z ≡ m - first_node c k = omega (arith, is) in
    record {
      in_x = sym (coordinate-voxel_at_x grid x y z place) ∙ ap (λ i. coordinate grid i 0) index;
      in_y = sym (coordinate-voxel_at_y grid x y z place) ∙ ap (λ i. coordinate grid i 1) index;
      in_z = sym (coordinate-voxel_at_z grid x y z place) ∙ ap (λ i. coordinate grid i 2) index;
    }

pub coordinates-node : (c : Chunking) (m v : ℕ) → m < node_count c → IsAtPlace c m v → node_at c (level_of c m) v ≡ m
coordinates-node c m v node at =
    let k = level_of c m in
    let grid = level_grid c k in
    let same : node_at c k v ≡ first_node c k + voxel_at grid (cell_place c m 0) (cell_place c m 1) (cell_place c m 2) =
    λ i. first_node c k + voxel_at grid (at.in_x i) (at.in_y i) (at.in_z i) in
    let back : voxel_at grid (cell_place c m 0) (cell_place c m 1) (cell_place c m 2) ≡ m - first_node c k =
    voxel_at-place grid (m - first_node c k) in
    omega (arith, same, back, on_level c m node)

-- a voxel of the cell is in the box
pub box-held : (c : Chunking) → IsChunking c → (m v : ℕ) → m < node_count c → v < voxel_count c.axes
    → IsAtPlace c m v → IsInBox c.axes (low_corner c m) (high_corner c m) v
box-held c h m v node below at =
    let k = level_of c m in
    let place = place-voxel c.axes v h.limits below in
    let x = quotient_range (coordinate c.axes v 0) c.axes.nx (cell_length c k 0) (cell_place c m 0) (cell_length_pos c h k 0) place.in_x at.in_x in
    let y = quotient_range (coordinate c.axes v 1) c.axes.ny (cell_length c k 1) (cell_place c m 1) (cell_length_pos c h k 1) place.in_y at.in_y in
    let z = quotient_range (coordinate c.axes v 2) c.axes.nz (cell_length c k 2) (cell_place c m 2) (cell_length_pos c h k 2) place.in_z at.in_z in
    record { from_x = x.0; to_x = x.1; from_y = y.0; to_y = y.1; from_z = z.0; to_z = z.1 }

pub at-box : (c : Chunking) → IsChunking c → (m v : ℕ)
    → IsInBox c.axes (low_corner c m) (high_corner c m) v → IsAtPlace c m v
at-box c h m v box =
    let k = level_of c m in
    record {
      in_x = quotient_from_range (coordinate c.axes v 0) c.axes.nx (cell_length c k 0) (cell_place c m 0) (cell_length_pos c h k 0) box.from_x box.to_x;
      in_y = quotient_from_range (coordinate c.axes v 1) c.axes.ny (cell_length c k 1) (cell_place c m 1) (cell_length_pos c h k 1) box.from_y box.to_y;
      in_z = quotient_from_range (coordinate c.axes v 2) c.axes.nz (cell_length c k 2) (cell_place c m 2) (cell_length_pos c h k 2) box.from_z box.to_z;
    }

pub cells_are_boxes : CellsAreBoxes
cells_are_boxes c m v h node below = (
  (λ held. box-held c h m v node below (node-coordinates c h m v node below (held_node c m v held))),
  (λ box. held_from c m v below (coordinates-node c m v node (at-box c h m v box))),
)
