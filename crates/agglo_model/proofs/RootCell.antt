-- The cell of the root: it holds every voxel, and has no artificial face.
use Rattle.std.proofs.Common.{◌≡◌, inl, inr, ℕ, ◌+◌, ◌*◌, ◌/◌, ◌<◌, ◌≤◌, min, nat_lt, true, ap, ◌∙◌, subst, arith}
use Rattle.std.specs.Int.{div_ceil}
use Rattle.std.proofs.lemmas.Bool.{ltb-true}
use Rattle.std.proofs.lemmas.Grind.{div_ceil_times}
use Rattle.std.proofs.Math.Nat.{mul-pos, le-mul_of_pos_right}
use Rattle.agglo_model.specs.Axes.{voxel_count, coordinate}
use Rattle.agglo_model.specs.Cutting.{Chunking, IsChunking, length_on, cell_length, cells_on, cells_at, last_level, node_count, root, level_of, cell_place, node_at, IsAtFaceOn, IsAtFace}
use Rattle.agglo_model.specs.Freezing.{is_held}
use Rattle.agglo_model.proofs.Levels.{cells_on_pos, cell_length_pos, cells_at-last}
use Rattle.agglo_model.proofs.NodeCells.{node_place, node-on_level, voxel_cell, level_of-root}
use Rattle.agglo_model.proofs.Freezing.{held_from}

-- the root is the last node
pub root_last : (c : Chunking) → IsChunking c → root c + 1 ≡ node_count c
root_last c h = omega (arith, cells_at-last c h)

pub root_holds : (c : Chunking) → IsChunking c → (v : ℕ) → v < voxel_count c.axes → is_held c (root c) v ≡ true
root_holds c h v below =
    let k = last_level c in
    let on = node-on_level c k
    (coordinate c.axes v 0 / cell_length c k 0) (coordinate c.axes v 1 / cell_length c k 1)
    (coordinate c.axes v 2 / cell_length c k 2) (omega arith) (voxel_cell c h k v below) in
    let there : node_at c k v ≡ root c = omega (arith, on.from, on.to, cells_at-last c h) in
    held_from c (root c) v below (ap (λ j. node_at c j v) (level_of-root c h) ∙ there)

-- three factors of 1
one_each : (x y z : ℕ) → 0 < x → 0 < y → 0 < z → x * y * z ≡ 1 → (x ≡ 1) × (y ≡ 1) × (z ≡ 1)
one_each x y z px py pz one =
    let of_x = le-mul_of_pos_right x (mul-pos py pz) in
    let of_y = le-mul_of_pos_right y (mul-pos px pz) in
    let of_z = le-mul_of_pos_right z (mul-pos px py) in
    (omega (arith, of_x), omega (arith, of_y), omega (arith, of_z))

-- a cell that is alone on an axis covers it
covers : (c : Chunking) → IsChunking c → (k axis : ℕ) → cells_on c k axis ≡ 1 → length_on c.axes axis ≤ cell_length c k axis
unfolding cells_on
covers c h k axis one =
    let all = div_ceil_times (length_on c.axes axis) (cell_length c k axis) (cell_length_pos c h k axis) in
    let whole : div_ceil (length_on c.axes axis) (cell_length c k axis) * cell_length c k axis ≡ 1 * cell_length c k axis =
    ap (λ q. q * cell_length c k axis) one in
    omega (arith, all, whole)

no_face_low : (place l : ℕ) → place < 1 → nat_lt 0 (place * l) ≡ true → ⊥
no_face_low place l first artificial =
    let zero_place : place ≡ 0 = omega arith in
    let some : 0 < place * l = ltb-true 0 (place * l) artificial in
    let none : place * l ≡ 0 * l = ap (λ p. p * l) zero_place in
    omega (arith, some, none)

no_face_high : (place l n : ℕ) → n ≤ l → nat_lt (min ((place + 1) * l) n) n ≡ true → ⊥
no_face_high place l n covered artificial =
    let less : min ((place + 1) * l) n < n = ltb-true (min ((place + 1) * l) n) n artificial in
    omega (arith, less)

no_face_on : (c : Chunking) → IsChunking c → (axis v : ℕ) → cells_on c (level_of c (root c)) axis ≡ 1
    → cell_place c (root c) axis < cells_on c (level_of c (root c)) axis → ¬ (IsAtFaceOn c (root c) axis v)
no_face_on c h axis v one place (inl (artificial, at)) =
    no_face_low (cell_place c (root c) axis) (cell_length c (level_of c (root c)) axis)
    (subst (λ n. cell_place c (root c) axis < n) one place) artificial
no_face_on c h axis v one place (inr (artificial, at)) =
    no_face_high (cell_place c (root c) axis) (cell_length c (level_of c (root c)) axis) (length_on c.axes axis)
    (covers c h (level_of c (root c)) axis one) artificial

pub root_no_face : (c : Chunking) → IsChunking c → (v : ℕ) → ¬ (IsAtFace c (root c) v)
root_no_face c h v at =
    let k = level_of c (root c) in
    let one : cells_at c k ≡ 1 = ap (cells_at c) (level_of-root c h) ∙ cells_at-last c h in
    let each = one_each (cells_on c k 0) (cells_on c k 1) (cells_on c k 2)
    (cells_on_pos c h k 0) (cells_on_pos c h k 1) (cells_on_pos c h k 2) one in
    let place = node_place c h (root c) (omega (arith, root_last c h)) in
    elim at [
      | inl on ↦ no_face_on c h 0 v each.0 place.in_x on
      | inr (inl on) ↦ no_face_on c h 1 v each.1 place.in_y on
      | inr (inr on) ↦ no_face_on c h 2 v each.2 place.in_z on
    ]
