-- The artificial faces of a node's cell that a name touches are those that it touches in the children's cells.
use Rattle.std.proofs.Common.{◌≡◌, ℕ, suc, ◌+◌, ◌*◌, ◌-◌, ◌/◌, ◌<◌, ◌≤◌, ◌==◌, min, Bool, true, ◌&&◌, List, sym, ap, ◌∙◌, subst, arith}
use Rattle.std.proofs.Math.Nat.{pow-suc}
use Rattle.std.proofs.lemmas.Bool.{and_parts, and_from, eqb-true, eq-eqb, ltb-true, lt-ltb}
use Rattle.std.specs.Cmp.{both_ways}
use Rattle.agglo_model.specs.Axes.{coordinate}
use Rattle.agglo_model.specs.Cutting.{Chunking, IsChunking, length_on, cell_length, node_count, level_of, cell_place, cell_low, cell_high, is_low_artificial, is_high_artificial, child_count, child}
use Rattle.agglo_model.specs.Freezing.{is_held, is_part, touches_low, touches_high, touched_faces}
use Rattle.agglo_model.proofs.Freezing.{held_voxel, part_held, part_name, part_from, some_voxel_from, some_voxel_is}
use Rattle.agglo_model.proofs.CellBoxes.{cells_are_boxes}
use Rattle.work_laws.proofs.Children.{child_below, child_level, child_of, child_holds, child_within, child_half_x, child_half_y, child_half_z}
use Rattle.work_laws.proofs.FaceBits.{same_on_axes}
use Rattle.work_laws.proofs.JoinedFaces.{some_from, one_some, some_one}
use Rattle.agglo_model.specs.Cutting.{face_bits}

-- a cell at place p, of half the length, that holds where the one at place q begins
low_same : (x l q p : ℕ) → p / 2 ≡ q → p * l ≤ x → x ≡ q * (l * 2) → p * l ≡ q * (l * 2)
low_same x l q p half low at =
    let r = p - 2 * q in
    let sum : p ≡ 2 * q + r = omega arith in
    let whole : p * l ≡ (2 * q + r) * l = ap (λ k. k * l) sum in
    omega arith

-- and where it ends
high_same : (x l q p n : ℕ) → p / 2 ≡ q → x < min ((p + 1) * l) n → x + 1 ≡ min ((q + 1) * (l * 2)) n
    → min ((q + 1) * (l * 2)) n < n → min ((p + 1) * l) n ≡ min ((q + 1) * (l * 2)) n
high_same x l q p n half high at before =
    let r = 2 * q + 1 - p in
    let sum : p + 1 + r ≡ 2 * q + 2 = omega arith in
    let whole : (p + 1 + r) * l ≡ (2 * q + 2) * l = ap (λ k. k * l) sum in
    omega arith

-- where voxel v lies on an axis of the cell of node `kid`, a child of node m
record IsOnAxis (c : Chunking) (m kid axis v : ℕ) : Type 0 where
  from : cell_low c kid axis ≤ coordinate c.axes v axis
  to : coordinate c.axes v axis < cell_high c kid axis
  half : cell_place c kid axis / 2 ≡ cell_place c m axis
  longer : cell_length c (level_of c m) axis ≡ cell_length c (level_of c kid) axis * 2

low_kept : (c : Chunking) (m kid axis v : ℕ) → IsOnAxis c m kid axis v → coordinate c.axes v axis ≡ cell_low c m axis
    → cell_low c kid axis ≡ cell_low c m axis
low_kept c m kid axis v on at =
    let whole : cell_low c m axis ≡ cell_place c m axis * (cell_length c (level_of c kid) axis * 2) =
    ap (λ k. cell_place c m axis * k) on.longer in
    low_same (coordinate c.axes v axis) (cell_length c (level_of c kid) axis) (cell_place c m axis) (cell_place c kid axis)
    on.half on.from (at ∙ whole)
    ∙ sym whole

high_kept : (c : Chunking) (m kid axis v : ℕ) → IsOnAxis c m kid axis v → coordinate c.axes v axis + 1 ≡ cell_high c m axis
    → cell_high c m axis < length_on c.axes axis → cell_high c kid axis ≡ cell_high c m axis
high_kept c m kid axis v on at before =
    let whole : cell_high c m axis ≡ min ((cell_place c m axis + 1) * (cell_length c (level_of c kid) axis * 2)) (length_on c.axes axis) =
    ap (λ k. min ((cell_place c m axis + 1) * k) (length_on c.axes axis)) on.longer in
    high_same (coordinate c.axes v axis) (cell_length c (level_of c kid) axis) (cell_place c m axis) (cell_place c kid axis)
    (length_on c.axes axis) on.half on.to (at ∙ whole) (subst (λ k. k < length_on c.axes axis) whole before)
    ∙ sym whole

-- the name touches a face of a child that is one of the node
abbrev pub keeps_low : Chunking → ℕ → List ℕ → ℕ → ℕ → ℕ → Bool
keeps_low c m labels x i axis = touches_low c (child c m i) labels x axis
    && (is_low_artificial c m axis && cell_low c (child c m i) axis == cell_low c m axis)

abbrev pub keeps_high : Chunking → ℕ → List ℕ → ℕ → ℕ → ℕ → Bool
keeps_high c m labels x i axis = touches_high c (child c m i) labels x axis
    && (is_high_artificial c m axis && cell_high c (child c m i) axis == cell_high c m axis)

module _ (c : Chunking) (h : IsChunking c) (m : ℕ) (node : m < node_count c) (inner : 0 < level_of c m)
    (labels : List ℕ) (x : ℕ) where
  -- each voxel of a child's cell is in its range on the axis
  abbrev AllOnAxis : ℕ → Type 0
  AllOnAxis axis = (v i : ℕ) → i < child_count c m → is_held c (child c m i) v ≡ true → IsOnAxis c m (child c m i) axis v

  child_longer : (i axis : ℕ) → i < child_count c m
      → cell_length c (level_of c m) axis ≡ cell_length c (level_of c (child c m i)) axis * 2
  child_longer i axis below =
      let level = child_level c h m node inner i below in
      let up : level_of c m ≡ suc (level_of c (child c m i)) = omega arith in
      ap (λ k. cell_length c k axis) up
      ∙ ap (λ p. length_on c.leaf axis * p) (pow-suc 2 (level_of c (child c m i)))
      ∙ omega arith

  on_x : AllOnAxis 0
  on_x v i below held =
      let box = (cells_are_boxes c (child c m i) v h (child_below c h m node inner i below) (held_voxel c (child c m i) v held)).0 held in
      record { from = box.from_x; to = box.to_x; half = child_half_x c h m node inner i below; longer = child_longer i 0 below }

  on_y : AllOnAxis 1
  on_y v i below held =
      let box = (cells_are_boxes c (child c m i) v h (child_below c h m node inner i below) (held_voxel c (child c m i) v held)).0 held in
      record { from = box.from_y; to = box.to_y; half = child_half_y c h m node inner i below; longer = child_longer i 1 below }

  on_z : AllOnAxis 2
  on_z v i below held =
      let box = (cells_are_boxes c (child c m i) v h (child_below c h m node inner i below) (held_voxel c (child c m i) v held)).0 held in
      record { from = box.from_z; to = box.to_z; half = child_half_z c h m node inner i below; longer = child_longer i 2 below }

  low_up : (axis : ℕ) → some_from (keeps_low c m labels x) 0 (child_count c m) axis ≡ true
      → touches_low c m labels x axis ≡ true
  low_up axis pass =
      let found = one_some (keeps_low c m labels x) 0 (child_count c m) axis pass in
      let i = found.0 in
      let below : i < child_count c m = omega (arith, found.1) in
      let kid = child c m i in
      let parts = and_parts (touches_low c kid labels x axis) _ found.2 in
      let kept = and_parts (is_low_artificial c m axis) _ parts.1 in
      let touch = and_parts (is_low_artificial c kid axis) _ parts.0 in
      let voxel = some_voxel_is c (λ v. is_part c kid labels x v && coordinate c.axes v axis == cell_low c kid axis) touch.1 in
      let v = voxel.0 in
      let at = and_parts (is_part c kid labels x v) _ voxel.1 in
      let held = child_within c h m node inner v i below (part_held c kid labels x v at.0) in
      let here = eqb-true (coordinate c.axes v axis) (cell_low c kid axis) at.1
      ∙ eqb-true (cell_low c kid axis) (cell_low c m axis) kept.1 in
      and_from (is_low_artificial c m axis) _ kept.0
      (some_voxel_from c (λ w. is_part c m labels x w && coordinate c.axes w axis == cell_low c m axis) v (held_voxel c m v held)
      (and_from (is_part c m labels x v) _ (part_from c m labels x v held (part_name c kid labels x v at.0))
      (eq-eqb (coordinate c.axes v axis) (cell_low c m axis) here)))

  high_up : (axis : ℕ) → some_from (keeps_high c m labels x) 0 (child_count c m) axis ≡ true
      → touches_high c m labels x axis ≡ true
  high_up axis pass =
      let found = one_some (keeps_high c m labels x) 0 (child_count c m) axis pass in
      let i = found.0 in
      let below : i < child_count c m = omega (arith, found.1) in
      let kid = child c m i in
      let parts = and_parts (touches_high c kid labels x axis) _ found.2 in
      let kept = and_parts (is_high_artificial c m axis) _ parts.1 in
      let touch = and_parts (is_high_artificial c kid axis) _ parts.0 in
      let voxel = some_voxel_is c (λ v. is_part c kid labels x v && coordinate c.axes v axis + 1 == cell_high c kid axis) touch.1 in
      let v = voxel.0 in
      let at = and_parts (is_part c kid labels x v) _ voxel.1 in
      let held = child_within c h m node inner v i below (part_held c kid labels x v at.0) in
      let here = eqb-true (coordinate c.axes v axis + 1) (cell_high c kid axis) at.1
      ∙ eqb-true (cell_high c kid axis) (cell_high c m axis) kept.1 in
      and_from (is_high_artificial c m axis) _ kept.0
      (some_voxel_from c (λ w. is_part c m labels x w && coordinate c.axes w axis + 1 == cell_high c m axis) v (held_voxel c m v held)
      (and_from (is_part c m labels x v) _ (part_from c m labels x v held (part_name c kid labels x v at.0))
      (eq-eqb (coordinate c.axes v axis + 1) (cell_high c m axis) here)))

  low_down : (axis : ℕ) → AllOnAxis axis → touches_low c m labels x axis ≡ true
      → some_from (keeps_low c m labels x) 0 (child_count c m) axis ≡ true
  low_down axis each pass =
      let touch = and_parts (is_low_artificial c m axis) _ pass in
      let voxel = some_voxel_is c (λ v. is_part c m labels x v && coordinate c.axes v axis == cell_low c m axis) touch.1 in
      let v = voxel.0 in
      let at = and_parts (is_part c m labels x v) _ voxel.1 in
      let held = part_held c m labels x v at.0 in
      let found = child_of c h m node inner v held in
      let i = found.0 in
      let kid = child c m i in
      let in_kid = child_holds c h m node inner v i found.1 held found.2 in
      let here = eqb-true (coordinate c.axes v axis) (cell_low c m axis) at.1 in
      let same = low_kept c m kid axis v (each v i found.1 in_kid) here in
      let some : 0 < cell_low c kid axis = subst (λ k. 0 < k) (sym same) (ltb-true 0 (cell_low c m axis) touch.0) in
      some_one (keeps_low c m labels x) 0 (child_count c m) axis i (omega arith) (omega (arith, found.1))
      (and_from (touches_low c kid labels x axis) _
      (and_from (is_low_artificial c kid axis) _ (lt-ltb 0 (cell_low c kid axis) some)
      (some_voxel_from c (λ w. is_part c kid labels x w && coordinate c.axes w axis == cell_low c kid axis) v (held_voxel c m v held)
      (and_from (is_part c kid labels x v) _ (part_from c kid labels x v in_kid (part_name c m labels x v at.0))
      (eq-eqb (coordinate c.axes v axis) (cell_low c kid axis) (here ∙ sym same)))))
      (and_from (is_low_artificial c m axis) _ touch.0 (eq-eqb (cell_low c kid axis) (cell_low c m axis) same)))

  high_down : (axis : ℕ) → AllOnAxis axis → touches_high c m labels x axis ≡ true
      → some_from (keeps_high c m labels x) 0 (child_count c m) axis ≡ true
  high_down axis each pass =
      let touch = and_parts (is_high_artificial c m axis) _ pass in
      let voxel = some_voxel_is c (λ v. is_part c m labels x v && coordinate c.axes v axis + 1 == cell_high c m axis) touch.1 in
      let v = voxel.0 in
      let at = and_parts (is_part c m labels x v) _ voxel.1 in
      let held = part_held c m labels x v at.0 in
      let found = child_of c h m node inner v held in
      let i = found.0 in
      let kid = child c m i in
      let in_kid = child_holds c h m node inner v i found.1 held found.2 in
      let here = eqb-true (coordinate c.axes v axis + 1) (cell_high c m axis) at.1 in
      let before = ltb-true (cell_high c m axis) (length_on c.axes axis) touch.0 in
      let same = high_kept c m kid axis v (each v i found.1 in_kid) here before in
      let short : cell_high c kid axis < length_on c.axes axis = subst (λ k. k < length_on c.axes axis) (sym same) before in
      some_one (keeps_high c m labels x) 0 (child_count c m) axis i (omega arith) (omega (arith, found.1))
      (and_from (touches_high c kid labels x axis) _
      (and_from (is_high_artificial c kid axis) _ (lt-ltb (cell_high c kid axis) (length_on c.axes axis) short)
      (some_voxel_from c (λ w. is_part c kid labels x w && coordinate c.axes w axis + 1 == cell_high c kid axis) v (held_voxel c m v held)
      (and_from (is_part c kid labels x v) _ (part_from c kid labels x v in_kid (part_name c m labels x v at.0))
      (eq-eqb (coordinate c.axes v axis + 1) (cell_high c kid axis) (here ∙ sym same)))))
      (and_from (is_high_artificial c m axis) _ touch.0 (eq-eqb (cell_high c kid axis) (cell_high c m axis) same)))

  low_alike : (axis : ℕ) → AllOnAxis axis
      → some_from (keeps_low c m labels x) 0 (child_count c m) axis ≡ touches_low c m labels x axis
  low_alike axis each = both_ways (some_from (keeps_low c m labels x) 0 (child_count c m) axis) (touches_low c m labels x axis)
      (low_up axis) (low_down axis each)

  high_alike : (axis : ℕ) → AllOnAxis axis
      → some_from (keeps_high c m labels x) 0 (child_count c m) axis ≡ touches_high c m labels x axis
  high_alike axis each = both_ways (some_from (keeps_high c m labels x) 0 (child_count c m) axis) (touches_high c m labels x axis)
      (high_up axis) (high_down axis each)

  pub children_faces : face_bits (some_from (keeps_low c m labels x) 0 (child_count c m)) (some_from (keeps_high c m labels x) 0 (child_count c m))
      ≡ touched_faces c m labels x
  children_faces = same_on_axes
      (some_from (keeps_low c m labels x) 0 (child_count c m)) (some_from (keeps_high c m labels x) 0 (child_count c m))
      (touches_low c m labels x) (touches_high c m labels x)
      (low_alike 0 on_x) (high_alike 0 on_x) (low_alike 1 on_y) (high_alike 1 on_y) (low_alike 2 on_z) (high_alike 2 on_z)
