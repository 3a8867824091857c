-- Edges inside the cell of a node: their higher ends lie in the cell without its lowest layer on their axis.
use Rattle.std.proofs.Common.{◌≡◌, ℕ, ◌+◌, ◌*◌, ◌-◌, ◌%◌, ◌<◌, cond, ◌&&◌, eqb, ltb, List, length, get_or, IsTrue, refl, sym, ap, ◌∙◌, arith}
use Rattle.std.proofs.lemmas.Bool.{and_parts, and_from, ltb-true, lt-ltb}
use Rattle.std.specs.Cmp.{both_ways}
use Rattle.agglo_model.specs.Axes.{Axes, IsWithinLimits, IsPlace, voxel_count, voxel_at, coordinate, stride, is_edge, lower_end, higher_end}
use Rattle.agglo_model.specs.Cell.{IsInBox}
use Rattle.agglo_model.specs.Cutting.{Chunking, IsChunking, node_count, low_corner, high_corner}
use Rattle.agglo_model.specs.Freezing.{is_inside}
use Rattle.agglo_model.proofs.Edges.{each_axis, edge_is, higher_end_below, lower_below_higher, lower-stride}
use Rattle.agglo_model.proofs.Places.{place-voxel, voxel_at-place, coordinate-voxel_at_x, coordinate-voxel_at_y, coordinate-voxel_at_z}
use Rattle.region_graph.specs.Boxes.{in_box, above_lowest}
use Rattle.region_graph.proofs.VoxelTests.{in_box-is, in_box-from}
use Rattle.region_graph.proofs.Layers.{above_in, cell_held}

-- v lies one step below w on an axis
pub record IsBelowOn (a : Axes) (v w axis : ℕ) : Type 0 where
  pub on_x : coordinate a v 0 + cond (eqb axis 0) 1 0 ≡ coordinate a w 0
  pub on_y : coordinate a v 1 + cond (eqb axis 1) 1 0 ≡ coordinate a w 1
  pub on_z : coordinate a v 2 + cond (eqb axis 2) 1 0 ≡ coordinate a w 2

at_place : (a : Axes) (v w axis x y z p q r : ℕ) → IsPlace a x y z → v ≡ voxel_at a x y z
    → coordinate a w 0 ≡ p → coordinate a w 1 ≡ q → coordinate a w 2 ≡ r
    → x + cond (eqb axis 0) 1 0 ≡ p → y + cond (eqb axis 1) 1 0 ≡ q → z + cond (eqb axis 2) 1 0 ≡ r → IsBelowOn a v w axis
at_place a v w axis x y z p q r place v_is w_x w_y w_z on_x on_y on_z =
    let v_x : coordinate a v 0 ≡ x = ap (λ u. coordinate a u 0) v_is ∙ coordinate-voxel_at_x a x y z place in
    let v_y : coordinate a v 1 ≡ y = ap (λ u. coordinate a u 1) v_is ∙ coordinate-voxel_at_y a x y z place in
    let v_z : coordinate a v 2 ≡ z = ap (λ u. coordinate a u 2) v_is ∙ coordinate-voxel_at_z a x y z place in
    record {
      on_x = ap (λ n. n + cond (eqb axis 0) 1 0) v_x ∙ on_x ∙ sym w_x;
      on_y = ap (λ n. n + cond (eqb axis 1) 1 0) v_y ∙ on_y ∙ sym w_y;
      on_z = ap (λ n. n + cond (eqb axis 2) 1 0) v_z ∙ on_z ∙ sym w_z;
    }

below_on : (a : Axes) → IsWithinLimits a → (v w axis : ℕ) → axis < 3 → w < voxel_count a → 0 < coordinate a w axis
    → v + stride a axis ≡ w → IsBelowOn a v w axis
below_on a limits v w axis lt below = each_axis (λ c. 0 < coordinate a w c → v + stride a c ≡ w → IsBelowOn a v w c) axis lt
    (λ some is. at_place a v w 0 (x - 1) y z x y z
    (record { in_x = omega (arith, place.in_x); in_y = place.in_y; in_z = place.in_z })
    (omega (arith, here)) refl refl refl (omega arith) (omega arith) (omega arith))
    (λ some is. at_place a v w 1 x (y - 1) z x y z
    (record { in_x = place.in_x; in_y = omega (arith, place.in_y); in_z = place.in_z })
    (let less : y - 1 + 1 ≡ y = omega arith in
    let row : a.nx * (y - 1) + a.nx ≡ a.nx * y = omega (arith, ap (λ t. a.nx * t) less) in
    omega (arith, here)) refl refl refl (omega arith) (omega arith) (omega arith))
    (λ some is. at_place a v w 2 x y (z - 1) x y z
    (record { in_x = place.in_x; in_y = place.in_y; in_z = omega (arith, place.in_z) })
    (let less : z - 1 + 1 ≡ z = omega arith in
    let layer : a.nx * a.ny * (z - 1) + a.nx * a.ny ≡ a.nx * a.ny * z = omega (arith, ap (λ t. a.nx * a.ny * t) less) in
    omega (arith, here)) refl refl refl (omega arith) (omega arith) (omega arith))
  where
    x : ℕ
    x = coordinate a w 0

    y : ℕ
    y = coordinate a w 1

    z : ℕ
    z = coordinate a w 2

    place : IsPlace a x y z
    place = place-voxel a w limits below

    here : w ≡ voxel_at a x y z
    here = sym (voxel_at-place a w)

-- the lower end of an edge lies one step below the higher on its axis
pub lower_below : (a : Axes) → IsWithinLimits a → (e : ℕ) → IsTrue (is_edge a e) → IsBelowOn a (lower_end a e) (higher_end e) (e % 3)
lower_below a limits e edge =
    below_on a limits (lower_end a e) (higher_end e) (e % 3) (omega arith) (higher_end_below a e edge)
    (edge_is a e edge).inside (lower-stride a e edge)

-- both lie in a box exactly where the higher one lies in the box without its lowest layer
lower_in : (a : Axes) (lo hi : List ℕ) (v w axis : ℕ) → axis < 3 → IsBelowOn a v w axis → IsInBox a lo hi w
    → get_or lo axis 0 < coordinate a w axis → IsInBox a lo hi v
lower_in a lo hi v w axis three below inside = each_axis (λ k. IsBelowOn a v w k → get_or lo k 0 < coordinate a w k → IsInBox a lo hi v) axis three
    (λ b some. record {
      from_x = omega (arith, b.on_x, inside.from_x);
      to_x = omega (arith, b.on_x, inside.to_x);
      from_y = omega (arith, b.on_y, inside.from_y);
      to_y = omega (arith, b.on_y, inside.to_y);
      from_z = omega (arith, b.on_z, inside.from_z);
      to_z = omega (arith, b.on_z, inside.to_z);
    })
    (λ b some. record {
      from_x = omega (arith, b.on_x, inside.from_x);
      to_x = omega (arith, b.on_x, inside.to_x);
      from_y = omega (arith, b.on_y, inside.from_y);
      to_y = omega (arith, b.on_y, inside.to_y);
      from_z = omega (arith, b.on_z, inside.from_z);
      to_z = omega (arith, b.on_z, inside.to_z);
    })
    (λ b some. record {
      from_x = omega (arith, b.on_x, inside.from_x);
      to_x = omega (arith, b.on_x, inside.to_x);
      from_y = omega (arith, b.on_y, inside.from_y);
      to_y = omega (arith, b.on_y, inside.to_y);
      from_z = omega (arith, b.on_z, inside.from_z);
      to_z = omega (arith, b.on_z, inside.to_z);
    }) below

above_low : (a : Axes) (lo hi : List ℕ) (v w axis : ℕ) → axis < 3 → IsBelowOn a v w axis → IsInBox a lo hi v
    → get_or lo axis 0 < coordinate a w axis
above_low a lo hi v w axis three below inside = each_axis (λ k. IsBelowOn a v w k → get_or lo k 0 < coordinate a w k) axis three
    (λ b. omega (arith, b.on_x, inside.from_x)) (λ b. omega (arith, b.on_y, inside.from_y)) (λ b. omega (arith, b.on_z, inside.from_z)) below

pub ends_inside : (a : Axes) → IsWithinLimits a → (lo hi : List ℕ) (e : ℕ) → length lo ≡ 3 → IsTrue (is_edge a e)
    → in_box a (above_lowest lo (e % 3)) hi (higher_end e) ≡ (in_box a lo hi (lower_end a e) && in_box a lo hi (higher_end e))
ends_inside a limits lo hi e len edge =
    let axis = e % 3 in
    let v = lower_end a e in
    let w = higher_end e in
    let three : axis < 3 = omega arith in
    let below = lower_below a limits e edge in
    let w_voxel = higher_end_below a e edge in
    let v_voxel : v < voxel_count a = omega (arith, lower_below_higher a e edge, w_voxel) in
    above_in a lo hi axis w three len
    ∙ both_ways (in_box a lo hi w && ltb (get_or lo axis 0) (coordinate a w axis)) (in_box a lo hi v && in_box a lo hi w)
    (λ pass.
    let parts = and_parts (in_box a lo hi w) (ltb (get_or lo axis 0) (coordinate a w axis)) pass in
    let inside = in_box-is a lo hi w parts.0 in
    and_from (in_box a lo hi v) (in_box a lo hi w)
    (in_box-from a lo hi v v_voxel (lower_in a lo hi v w axis three below inside (ltb-true (get_or lo axis 0) (coordinate a w axis) parts.1)))
    parts.0)
    (λ pass.
    let parts = and_parts (in_box a lo hi v) (in_box a lo hi w) pass in
    and_from (in_box a lo hi w) (ltb (get_or lo axis 0) (coordinate a w axis)) parts.1
    (lt-ltb (get_or lo axis 0) (coordinate a w axis) (above_low a lo hi v w axis three below (in_box-is a lo hi v parts.0))))

-- the edges inside the cell of a node
pub inside_is : (c : Chunking) → IsChunking c → (m e : ℕ) → m < node_count c → IsTrue (is_edge c.axes e)
    → in_box c.axes (above_lowest (low_corner c m) (e % 3)) (high_corner c m) (higher_end e) ≡ is_inside c m e
inside_is c h m e node edge =
    ends_inside c.axes h.limits (low_corner c m) (high_corner c m) e refl edge
    ∙ (λ i. cell_held c h m (lower_end c.axes e) node i && cell_held c h m (higher_end e) node i)
