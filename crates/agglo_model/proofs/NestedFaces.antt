-- The faces of a great cell are faces of the smaller cells inside: where a voxel is in both, and at an
-- artificial face of the great one, it is at one of the smaller one.
use Rattle.std.proofs.Common.{◌≡◌, inl, inr, ℕ, zero, suc, ◌+◌, ◌*◌, ◌-◌, ◌/◌, ◌^◌, ◌<◌, ◌≤◌, min, true, sym, ap, ◌∙◌, subst, arith}
use Rattle.std.proofs.lemmas.Bool.{ltb-true, lt-ltb}
use Rattle.std.proofs.lemmas.Nat.{pow-add}
use Rattle.agglo_model.specs.Axes.{coordinate}
use Rattle.agglo_model.specs.Cutting.{Chunking, IsChunking, length_on, cell_length, node_count, level_of, cell_place, IsAtFaceOn, IsAtFace}
use Rattle.agglo_model.specs.Freezing.{is_held}
use Rattle.agglo_model.proofs.Levels.{cell_length_pos}
use Rattle.agglo_model.proofs.Freezing.{held_voxel, held_node}
use Rattle.agglo_model.proofs.CellBoxes.{IsAtPlace, node-coordinates, quotient_from_range}

-- the quotient of a multiple, and of the number before one
multiple_quotient : (x l k : ℕ) → 0 < l → x ≡ k * l → x / l ≡ k
multiple_quotient x l k some is = quotient_from_range x (x + 1) l k some (omega arith) (omega arith)

before_quotient : (x l k : ℕ) → 0 < l → x + 1 ≡ k * l → x / l + 1 ≡ k
before_quotient x l zero some is = omega (arith, is)
before_quotient x l (suc k) some is =
    let here : x / l ≡ k = quotient_from_range x (x + 1) l k some (omega arith) (omega arith) in
    omega arith

-- x begins a cell of length l * r: then it begins one of length l
begins_inner : (x l r q p : ℕ) → 0 < l → x / l ≡ p → x ≡ q * (l * r) → x ≡ p * l
begins_inner x l r q p some is here =
    let whole : x ≡ q * r * l = omega arith in
    let quotient : x / l ≡ q * r = multiple_quotient x l (q * r) some whole in
    let same : q * r ≡ p = sym quotient ∙ is in
    whole ∙ ap (λ k. k * l) same

-- x ends a cell of length l * r, before n: then it ends one of length l
ends_inner : (x l r q p n : ℕ) → 0 < l → x / l ≡ p → x + 1 ≡ min ((q + 1) * (l * r)) n → min ((q + 1) * (l * r)) n < n
    → (min ((p + 1) * l) n < n) × (x + 1 ≡ min ((p + 1) * l) n)
ends_inner x l r q p n some is here before =
    let whole : x + 1 ≡ (q + 1) * r * l = omega arith in
    let quotient : x / l + 1 ≡ (q + 1) * r = before_quotient x l ((q + 1) * r) some whole in
    let same : (q + 1) * r ≡ p + 1 = sym quotient ∙ ap (λ k. k + 1) is in
    let inner : x + 1 ≡ (p + 1) * l = whole ∙ ap (λ k. k * l) same in
    (omega arith, omega arith)

module _ (c : Chunking) (h : IsChunking c) (j m : ℕ) (order : level_of c j ≤ level_of c m) where
  times : ℕ
  times = 2 ^ (level_of c m - level_of c j)

  longer : (axis : ℕ) → cell_length c (level_of c m) axis ≡ cell_length c (level_of c j) axis * times
  unfolding times
  longer axis =
      let sum : level_of c j + (level_of c m - level_of c j) ≡ level_of c m = omega arith in
      ap (λ k. length_on c.leaf axis * 2 ^ k) (sym sum)
      ∙ ap (λ p. length_on c.leaf axis * p) (pow-add 2 (level_of c j) (level_of c m - level_of c j))
      ∙ omega arith

  inner_face_on : (axis v : ℕ) → coordinate c.axes v axis / cell_length c (level_of c j) axis ≡ cell_place c j axis
      → IsAtFaceOn c m axis v → IsAtFaceOn c j axis v
  inner_face_on axis v place (inl (artificial, at)) =
      let x = coordinate c.axes v axis in
      let l = cell_length c (level_of c j) axis in
      let begins : x ≡ cell_place c j axis * l =
      begins_inner x l times (cell_place c m axis) (cell_place c j axis) (cell_length_pos c h (level_of c j) axis) place
      (at ∙ ap (λ k. cell_place c m axis * k) (longer axis)) in
      let some : 0 < x = subst (λ k. 0 < k) (sym at) (ltb-true 0 _ artificial) in
      inl (lt-ltb 0 _ (subst (λ k. 0 < k) begins some), begins)
  inner_face_on axis v place (inr (artificial, at)) =
      let x = coordinate c.axes v axis in
      let l = cell_length c (level_of c j) axis in
      let n = length_on c.axes axis in
      let ends = ends_inner x l times (cell_place c m axis) (cell_place c j axis) n (cell_length_pos c h (level_of c j) axis) place
      (at ∙ ap (λ k. min ((cell_place c m axis + 1) * k) n) (longer axis))
      (subst (λ k. min ((cell_place c m axis + 1) * k) n < n) (longer axis) (ltb-true _ n artificial)) in
      inr (lt-ltb _ n ends.0, ends.1)

  inner_faces : (v : ℕ) → IsAtPlace c j v → IsAtFace c m v → IsAtFace c j v
  inner_faces v place (inl on) = inl (inner_face_on 0 v place.in_x on)
  inner_faces v place (inr (inl on)) = inr (inl (inner_face_on 1 v place.in_y on))
  inner_faces v place (inr (inr on)) = inr (inr (inner_face_on 2 v place.in_z on))

-- a voxel of a node's cell that is at an artificial face of a cell of the same level or a higher one
pub inner_face : (c : Chunking) → IsChunking c → (j m v : ℕ) → j < node_count c → level_of c j ≤ level_of c m
    → is_held c j v ≡ true → IsAtFace c m v → IsAtFace c j v
inner_face c h j m v node order held at =
    inner_faces c h j m order v (node-coordinates c h j v node (held_voxel c j v held) (held_node c j v held)) at
