-- The edges that cross from child to child of a node: their higher ends lie where the first child's range ends on
-- their axis.
use Rattle.std.proofs.Common.{◌≡◌, ◌≢◌, inl, inr, ℕ, ◌+◌, ◌*◌, ◌-◌, ◌/◌, ◌%◌, ◌<◌, ◌≤◌, ◌==◌, true, not, ◌&&◌, eqb, ltb, get_or, refl, sym, ap, ◌∙◌, subst, arith}
use Rattle.std.specs.Prelude.{IsTrue}
use Rattle.std.proofs.Math.Nat.{div-div-eq-div-mul, mul-le-mul_right}
use Rattle.std.proofs.lemmas.Bool.{cases_Bool, cases_lt, and_parts, and_from, eqb-true, eq-eqb, lt-ltb, not-true, not_from_false, false≢true}
use Rattle.std.specs.Cmp.{both_ways}
use Rattle.agglo_model.specs.Axes.{voxel_count, voxel_at, coordinate, is_edge, lower_end, higher_end}
use Rattle.agglo_model.specs.Cutting.{Chunking, IsChunking, length_on, cell_length, level_grid, first_node, node_count, level_of, cell_place, cell_low, cell_high, low_corner, high_corner, node_at, child_count, child}
use Rattle.agglo_model.specs.Freezing.{is_held, is_inside}
use Rattle.agglo_model.specs.Joining.{is_crossing}
use Rattle.agglo_model.proofs.CellBoxes.{node-coordinates}
use Rattle.agglo_model.proofs.Edges.{each_axis, higher_end_below, lower_below_higher}
use Rattle.agglo_model.proofs.Freezing.{held_voxel, held_node}
use Rattle.agglo_model.proofs.Levels.{cell_length_pos}
use Rattle.agglo_model.proofs.NodeCells.{voxel_cell}
use Rattle.agglo_model.proofs.Places.{place-voxel, coordinate-voxel_at_x, coordinate-voxel_at_y, coordinate-voxel_at_z}
use Rattle.region_graph.specs.Boxes.{in_box}
use Rattle.region_graph.proofs.InsideEdges.{IsBelowOn, lower_below, inside_is}
use Rattle.region_graph.proofs.Layers.{above_in}
use Rattle.parent_join.proofs.FirstChild.{longer, first_high, first_after}

-- ---- two neighbours on an axis, and where they lie in cells of length l

-- neighbours in different cells, both in the first or the second half of a cell of twice the length
half_way : (x l q a b : ℕ) → a ≢ b → a / 2 ≡ q → b / 2 ≡ q → a * l ≤ x → x < (a + 1) * l
    → b * l ≤ x + 1 → x + 1 < (b + 1) * l → x + 1 ≡ (2 * q + 1) * l
half_way x l q a b differ half_a half_b low_a high_a low_b high_b =
    elim (cases_lt a b) [
      | inl less ↦
          let at_a : a ≡ 2 * q = omega arith in
          let at_b : b ≡ 2 * q + 1 = omega arith in
          let to : x < (2 * q + 1) * l = subst (λ n. x < (n + 1) * l) at_a high_a in
          let from : (2 * q + 1) * l ≤ x + 1 = subst (λ n. n * l ≤ x + 1) at_b low_b in
          omega arith
      | inr most ↦
          let next : b + 1 ≤ a = omega arith in
          let more : (b + 1) * l ≤ a * l = mul-le-mul_right l next in
          absurd (omega arith)
    ]

-- they are in different cells where one begins
one_way : (x l p a : ℕ) → x + 1 ≡ p * l → a * l ≤ x → x + 1 < (a + 1) * l → ⊥
one_way x l p a at low high = elim (cases_lt a p) [
  | inl less ↦
      let next : a + 1 ≤ p = omega arith in
      let more : (a + 1) * l ≤ p * l = mul-le-mul_right l next in
      omega arith
  | inr most ↦
      let more : p * l ≤ a * l = mul-le-mul_right l most in
      omega arith
]

module _ (c : Chunking) (h : IsChunking c) (m : ℕ) (node : m < node_count c) (some : 0 < child_count c m) where
  -- the place of a voxel in the grid of the level below
  abbrev pub place_of : ℕ → ℕ → ℕ
  place_of v axis = coordinate c.axes v axis / cell_length c (level_of c m - 1) axis

  in_place : (v axis : ℕ) → (place_of v axis * cell_length c (level_of c m - 1) axis ≤ coordinate c.axes v axis)
      × (coordinate c.axes v axis < (place_of v axis + 1) * cell_length c (level_of c m - 1) axis)
  in_place v axis =
      let long = cell_length_pos c h (level_of c m - 1) axis in
      quotient (coordinate c.axes v axis) (cell_length c (level_of c m - 1) axis) long
    where
      quotient : (x l : ℕ) → 0 < l → (x / l * l ≤ x) × (x < (x / l + 1) * l)
      quotient x l long = (omega arith, omega arith)

  -- a voxel of the cell is in one of its two halves on each axis
  half_place : (v axis : ℕ) → axis < 3 → is_held c m v ≡ true → place_of v axis / 2 ≡ cell_place c m axis
  half_place v axis three held =
      let at = node-coordinates c h m v node (held_voxel c m v held) (held_node c m v held) in
      div-div-eq-div-mul (coordinate c.axes v axis) (cell_length c (level_of c m - 1) axis) 2
      ∙ ap (λ l. coordinate c.axes v axis / l) (sym (longer c h m node some axis))
      ∙ each_axis (λ k. coordinate c.axes v k / cell_length c (level_of c m) k ≡ cell_place c m k) axis three at.in_x at.in_y at.in_z

  -- voxels in one cell of the level below have the same places
  same_node : (v w : ℕ) → place_of v 0 ≡ place_of w 0 → place_of v 1 ≡ place_of w 1 → place_of v 2 ≡ place_of w 2
      → node_at c (level_of c m - 1) v ≡ node_at c (level_of c m - 1) w
  same_node v w x y z =
      λ i. first_node c (level_of c m - 1) + voxel_at (level_grid c (level_of c m - 1)) (x i) (y i) (z i)

  same_place : (v w axis : ℕ) → axis < 3 → v < voxel_count c.axes → w < voxel_count c.axes
      → node_at c (level_of c m - 1) v ≡ node_at c (level_of c m - 1) w → place_of v axis ≡ place_of w axis
  same_place v w axis three below_v below_w same =
      let grid = level_grid c (level_of c m - 1) in
      let at_v = voxel_cell c h (level_of c m - 1) v below_v in
      let at_w = voxel_cell c h (level_of c m - 1) w below_w in
      let index : voxel_at grid (place_of v 0) (place_of v 1) (place_of v 2) ≡ voxel_at grid (place_of w 0) (place_of w 1) (place_of w 2) =
      omega arith in
      each_axis (λ k. place_of v k ≡ place_of w k) axis three
      (sym (coordinate-voxel_at_x grid (place_of v 0) (place_of v 1) (place_of v 2) at_v)
      ∙ ap (λ n. coordinate grid n 0) index ∙ coordinate-voxel_at_x grid (place_of w 0) (place_of w 1) (place_of w 2) at_w)
      (sym (coordinate-voxel_at_y grid (place_of v 0) (place_of v 1) (place_of v 2) at_v)
      ∙ ap (λ n. coordinate grid n 1) index ∙ coordinate-voxel_at_y grid (place_of w 0) (place_of w 1) (place_of w 2) at_w)
      (sym (coordinate-voxel_at_z grid (place_of v 0) (place_of v 1) (place_of v 2) at_v)
      ∙ ap (λ n. coordinate grid n 2) index ∙ coordinate-voxel_at_z grid (place_of w 0) (place_of w 1) (place_of w 2) at_w)

  -- neighbours on an axis have the same places on the others
  neighbours : (v w axis : ℕ) → axis < 3 → IsBelowOn c.axes v w axis → place_of v axis ≡ place_of w axis
      → node_at c (level_of c m - 1) v ≡ node_at c (level_of c m - 1) w
  neighbours v w axis three below = each_axis (λ k. IsBelowOn c.axes v w k → place_of v k ≡ place_of w k
      → node_at c (level_of c m - 1) v ≡ node_at c (level_of c m - 1) w) axis three
      (λ b here. same_node v w here (on 1 (omega (arith, b.on_y))) (on 2 (omega (arith, b.on_z))))
      (λ b here. same_node v w (on 0 (omega (arith, b.on_x))) here (on 2 (omega (arith, b.on_z))))
      (λ b here. same_node v w (on 0 (omega (arith, b.on_x))) (on 1 (omega (arith, b.on_y))) here) below
    where
      on : (k : ℕ) → coordinate c.axes v k ≡ coordinate c.axes w k → place_of v k ≡ place_of w k
      on k same = ap (λ x. x / cell_length c (level_of c m - 1) k) same

  step_on : (v w axis : ℕ) → axis < 3 → IsBelowOn c.axes v w axis → coordinate c.axes v axis + 1 ≡ coordinate c.axes w axis
  step_on v w axis three below =
      each_axis (λ k. IsBelowOn c.axes v w k → coordinate c.axes v k + 1 ≡ coordinate c.axes w k) axis three
      (λ b. b.on_x) (λ b. b.on_y) (λ b. b.on_z) below

  -- where the first child ends, a voxel of the cell and the one below it are in different children
  apart_there : (v w axis : ℕ) → axis < 3 → IsBelowOn c.axes v w axis → v < voxel_count c.axes → w < voxel_count c.axes
      → coordinate c.axes w axis ≡ cell_high c (child c m 0) axis → coordinate c.axes w axis < length_on c.axes axis
      → node_at c (level_of c m - 1) v ≢ node_at c (level_of c m - 1) w
  apart_there v w axis three below below_v below_w at short same =
      let l = cell_length c (level_of c m - 1) axis in
      let one = step_on v w axis three below in
      let high = first_high c h m node some axis three in
      let there : coordinate c.axes v axis + 1 ≡ (2 * cell_place c m axis + 1) * l = omega arith in
      let places = same_place v w axis three below_v below_w same in
      let low = (in_place v axis).0 in
      let to = subst (λ p. coordinate c.axes w axis < (p + 1) * l) (sym places) (in_place w axis).1 in
      one_way (coordinate c.axes v axis) l (2 * cell_place c m axis + 1) (place_of v axis) there low (omega arith)

  -- and nowhere else
  there_apart : (v w axis : ℕ) → axis < 3 → IsBelowOn c.axes v w axis → is_held c m v ≡ true → is_held c m w ≡ true
      → coordinate c.axes w axis < length_on c.axes axis
      → node_at c (level_of c m - 1) v ≢ node_at c (level_of c m - 1) w
      → coordinate c.axes w axis ≡ cell_high c (child c m 0) axis
  there_apart v w axis three below held_v held_w short apart =
      let l = cell_length c (level_of c m - 1) axis in
      let one = step_on v w axis three below in
      let at_v = in_place v axis in
      let at_w = in_place w axis in
      let high = first_high c h m node some axis three in
      let there = half_way (coordinate c.axes v axis) l (cell_place c m axis) (place_of v axis) (place_of w axis)
      (λ same. apart (neighbours v w axis three below same))
      (half_place v axis three held_v) (half_place w axis three held_w) at_v.0 at_v.1 (omega (arith, at_w.0)) (omega (arith, at_w.1)) in
      omega arith

  short_on : (w axis : ℕ) → axis < 3 → w < voxel_count c.axes → coordinate c.axes w axis < length_on c.axes axis
  short_on w axis three below =
      let place = place-voxel c.axes w h.limits below in
      each_axis (λ k. coordinate c.axes w k < length_on c.axes k) axis three place.in_x place.in_y place.in_z

  pub low_at : (n axis : ℕ) → axis < 3 → get_or (low_corner c n) axis 0 ≡ cell_low c n axis
  low_at n axis three = each_axis (λ k. get_or (low_corner c n) k 0 ≡ cell_low c n k) axis three refl refl refl

  pub high_at : (n axis : ℕ) → axis < 3 → get_or (high_corner c n) axis 0 ≡ cell_high c n axis
  high_at n axis three = each_axis (λ k. get_or (high_corner c n) k 0 ≡ cell_high c n k) axis three refl refl refl

  -- both ends of an edge lie in the cell where the higher one does and isn't in the lowest layer
  inside_by : (e : ℕ) → IsTrue (is_edge c.axes e) → is_inside c m e
      ≡ (in_box c.axes (low_corner c m) (high_corner c m) (higher_end e)
      && ltb (get_or (low_corner c m) (e % 3) 0) (coordinate c.axes (higher_end e) (e % 3)))
  inside_by e edge = sym (inside_is c h m e node edge)
      ∙ above_in c.axes (low_corner c m) (high_corner c m) (e % 3) (higher_end e) (omega arith) refl

  layer_crosses : (e : ℕ) → IsTrue (is_edge c.axes e)
      → in_box c.axes (low_corner c m) (high_corner c m) (higher_end e) ≡ true
      → coordinate c.axes (higher_end e) (e % 3) ≡ cell_high c (child c m 0) (e % 3) → is_crossing c m e ≡ true
  layer_crosses e edge held at =
      let axis = e % 3 in
      let v = lower_end c.axes e in
      let w = higher_end e in
      let three : axis < 3 = omega arith in
      let w_voxel = higher_end_below c.axes e edge in
      let v_voxel : v < voxel_count c.axes = omega (arith, lower_below_higher c.axes e edge, w_voxel) in
      let after = first_after c h m node some axis three in
      let low = low_at m axis three in
      let inside : is_inside c m e ≡ true = inside_by e edge
      ∙ and_from (in_box c.axes (low_corner c m) (high_corner c m) w) _ held
      (lt-ltb (get_or (low_corner c m) axis 0) (coordinate c.axes w axis) (omega (arith, after, low, at))) in
      let apart = apart_there v w axis three (lower_below c.axes h.limits e edge) v_voxel w_voxel at (short_on w axis three w_voxel) in
      and_from (is_inside c m e) _ inside (differ _ _ apart)
    where
      differ : (a b : ℕ) → a ≢ b → not (a == b) ≡ true
      differ a b apart = elim (cases_Bool (a == b)) [
        | inl same ↦ absurd (apart (eqb-true a b same))
        | inr other ↦ not_from_false (a == b) other
      ]

  crossing_there : (e : ℕ) → IsTrue (is_edge c.axes e) → is_crossing c m e ≡ true
      → (in_box c.axes (low_corner c m) (high_corner c m) (higher_end e) ≡ true)
      × (coordinate c.axes (higher_end e) (e % 3) ≡ cell_high c (child c m 0) (e % 3))
  crossing_there e edge crosses =
      let axis = e % 3 in
      let v = lower_end c.axes e in
      let w = higher_end e in
      let three : axis < 3 = omega arith in
      let w_voxel = higher_end_below c.axes e edge in
      let parts = and_parts (is_inside c m e) _ crosses in
      let ends = and_parts (is_held c m v) (is_held c m w) parts.0 in
      let other = not-true (node_at c (level_of c m - 1) v == node_at c (level_of c m - 1) w) parts.1 in
      let apart : node_at c (level_of c m - 1) v ≢ node_at c (level_of c m - 1) w =
      λ same. false≢true (sym other ∙ eq-eqb (node_at c (level_of c m - 1) v) (node_at c (level_of c m - 1) w) same) in (
        (and_parts (in_box c.axes (low_corner c m) (high_corner c m) w) _ (sym (inside_by e edge) ∙ parts.0)).0,
        there_apart v w axis three (lower_below c.axes h.limits e edge) ends.0 ends.1 (short_on w axis three w_voxel) apart,
      )

  -- an edge crosses exactly where its higher end is a voxel of the cell at the coordinate where the first child ends
  pub crossing_is : (e : ℕ) → IsTrue (is_edge c.axes e)
      → (in_box c.axes (low_corner c m) (high_corner c m) (higher_end e)
      && eqb (coordinate c.axes (higher_end e) (e % 3)) (get_or (high_corner c (child c m 0)) (e % 3) 0)) ≡ is_crossing c m e
  crossing_is e edge =
      let axis = e % 3 in
      let w = higher_end e in
      let high = high_at (child c m 0) axis (omega arith) in
      both_ways _ (is_crossing c m e)
      (λ pass.
      let parts = and_parts (in_box c.axes (low_corner c m) (high_corner c m) w) _ pass in
      layer_crosses e edge parts.0 (eqb-true (coordinate c.axes w axis) (get_or (high_corner c (child c m 0)) axis 0) parts.1 ∙ high))
      (λ crosses.
      let there = crossing_there e edge crosses in
      and_from (in_box c.axes (low_corner c m) (high_corner c m) w) _ there.0
      (eq-eqb (coordinate c.axes w axis) (get_or (high_corner c (child c m 0)) axis 0) (there.1 ∙ sym high)))
