-- An edge that leaves the cell of a node begins at an artificial face.
use Rattle.std.proofs.Common.{◌≡◌, ◌⊎◌, inl, inr, ℕ, ◌<◌, ◌≤◌, true, false, sym, ◌∙◌, arith}
use Rattle.std.proofs.lemmas.Bool.{lt-ltb, true≢false}
use Rattle.agglo_model.specs.Axes.{IsPlace, coordinate}
use Rattle.agglo_model.specs.Cell.{IsInBox}
use Rattle.agglo_model.specs.Connected.{AreNeighbours}
use Rattle.agglo_model.specs.Cutting.{Chunking, IsChunking, length_on, node_count, cell_low, cell_high, low_corner, high_corner, IsAtFaceOn, IsAtFace}
use Rattle.agglo_model.specs.Freezing.{is_held}
use Rattle.agglo_model.proofs.Places.{place-voxel}
use Rattle.agglo_model.proofs.Freezing.{held_voxel}
use Rattle.agglo_model.proofs.CellBoxes.{cells_are_boxes}
use Rattle.agglo_model.proofs.CloseVoxels.{AreClose, AreCloseVoxels, neighbours_close, neighbour_below}

-- a number is in a range or not
range_cases : (lo hi y : ℕ) → ((lo ≤ y) × (y < hi)) ⊎ ((y < lo) ⊎ (hi ≤ y))
range_cases lo hi y = grind arith

-- where a coordinate leaves the range of a cell, the one before is at a face on that axis
leaves_on : (c : Chunking) (m v w axis : ℕ) → cell_low c m axis ≤ coordinate c.axes v axis
    → coordinate c.axes v axis < cell_high c m axis → AreClose (coordinate c.axes v axis) (coordinate c.axes w axis)
    → coordinate c.axes w axis < length_on c.axes axis
    → (coordinate c.axes w axis < cell_low c m axis) ⊎ (cell_high c m axis ≤ coordinate c.axes w axis)
    → IsAtFaceOn c m axis v
leaves_on c m v w axis from to close below (inl under) =
    inl (lt-ltb 0 (cell_low c m axis) (omega arith), omega (arith, close))
leaves_on c m v w axis from to close below (inr over) =
    inr (lt-ltb (cell_high c m axis) (length_on c.axes axis) (omega arith), omega (arith, close))

-- a voxel in the box that is close to one outside of it is at a face
leaves_box : (c : Chunking) (m v w : ℕ) → IsInBox c.axes (low_corner c m) (high_corner c m) v
    → AreCloseVoxels c.axes v w → IsPlace c.axes (coordinate c.axes w 0) (coordinate c.axes w 1) (coordinate c.axes w 2)
    → (IsInBox c.axes (low_corner c m) (high_corner c m) w → ⊥) → IsAtFace c m v
leaves_box c m v w box close place out =
    elim (range_cases (cell_low c m 0) (cell_high c m 0) (coordinate c.axes w 0)) [
      | inr x ↦ inl (leaves_on c m v w 0 box.from_x box.to_x close.on_x place.in_x x)
      | inl x ↦ elim (range_cases (cell_low c m 1) (cell_high c m 1) (coordinate c.axes w 1)) [
        | inr y ↦ inr (inl (leaves_on c m v w 1 box.from_y box.to_y close.on_y place.in_y y))
        | inl y ↦ elim (range_cases (cell_low c m 2) (cell_high c m 2) (coordinate c.axes w 2)) [
          | inr z ↦ inr (inr (leaves_on c m v w 2 box.from_z box.to_z close.on_z place.in_z z))
          | inl z ↦ absurd (out
              (record { from_x = x.0; to_x = x.1; from_y = y.0; to_y = y.1; from_z = z.0; to_z = z.1 }))
        ]
      ]
    ]

-- so is a voxel of the cell with a neighbour outside
pub crossing : (c : Chunking) → IsChunking c → (m : ℕ) → m < node_count c → (v w : ℕ) → is_held c m v ≡ true
    → AreNeighbours c.axes v w → is_held c m w ≡ false → IsAtFace c m v
crossing c h m node v w held near out =
    let below = neighbour_below c.axes v w near in
    leaves_box c m v w ((cells_are_boxes c m v h node (held_voxel c m v held)).0 held)
    (neighbours_close c.axes h.limits v w near) (place-voxel c.axes w h.limits below)
    (λ box. true≢false (sym ((cells_are_boxes c m w h node below).1 box) ∙ out))
