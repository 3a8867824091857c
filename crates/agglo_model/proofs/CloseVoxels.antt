-- Neighbours are close: on each axis their coordinates differ by one at most.
use Rattle.std.proofs.Common.{◌≡◌, inl, inr, ℕ, ◌+◌, ◌*◌, ◌-◌, ◌%◌, ◌<◌, ◌≤◌, IsTrue, sym, ap, ◌∙◌, subst, arith}
use Rattle.agglo_model.specs.Axes.{Axes, IsWithinLimits, IsPlace, voxel_count, voxel_at, coordinate, stride, is_edge, lower_end, higher_end}
use Rattle.agglo_model.specs.Connected.{AreNeighbours}
use Rattle.agglo_model.proofs.Edges.{edge_is, higher_end_below, lower_below_higher, lower-stride, each_axis}
use Rattle.agglo_model.proofs.Places.{place-voxel, voxel_at-place, coordinate-voxel_at_x, coordinate-voxel_at_y, coordinate-voxel_at_z}

-- two numbers differ by one at most
abbrev pub AreClose : ℕ → ℕ → Type 0
AreClose x y = (x ≤ y + 1) × (y ≤ x + 1)

-- the coordinates of two voxels
pub record AreCloseVoxels (a : Axes) (v w : ℕ) : Type 0 where
  pub on_x : AreClose (coordinate a v 0) (coordinate a w 0)
  pub on_y : AreClose (coordinate a v 1) (coordinate a w 1)
  pub on_z : AreClose (coordinate a v 2) (coordinate a w 2)

close_swap : (a : Axes) (v w : ℕ) → AreCloseVoxels a v w → AreCloseVoxels a w v
close_swap a v w near = record {
  on_x = (near.on_x.1, near.on_x.0);
  on_y = (near.on_y.1, near.on_y.0);
  on_z = (near.on_z.1, near.on_z.0);
}

-- two places of close coordinates
close_places : (a : Axes) (v w x y z p q r : ℕ) → IsPlace a x y z → IsPlace a p q r → v ≡ voxel_at a x y z
    → w ≡ voxel_at a p q r → AreClose x p → AreClose y q → AreClose z r → AreCloseVoxels a v w
close_places a v w x y z p q r from to v_is w_is on_x on_y on_z =
    let v_x : coordinate a v 0 ≡ x = ap (λ u. coordinate a u 0) v_is ∙ coordinate-voxel_at_x a x y z from in
    let v_y : coordinate a v 1 ≡ y = ap (λ u. coordinate a u 1) v_is ∙ coordinate-voxel_at_y a x y z from in
    let v_z : coordinate a v 2 ≡ z = ap (λ u. coordinate a u 2) v_is ∙ coordinate-voxel_at_z a x y z from in
    let w_x : coordinate a w 0 ≡ p = ap (λ u. coordinate a u 0) w_is ∙ coordinate-voxel_at_x a p q r to in
    let w_y : coordinate a w 1 ≡ q = ap (λ u. coordinate a u 1) w_is ∙ coordinate-voxel_at_y a p q r to in
    let w_z : coordinate a w 2 ≡ r = ap (λ u. coordinate a u 2) w_is ∙ coordinate-voxel_at_z a p q r to in
    record {
      on_x = (omega (arith, on_x), omega (arith, on_x));
      on_y = (omega (arith, on_y), omega (arith, on_y));
      on_z = (omega (arith, on_z), omega (arith, on_z));
    }

same_close : (x : ℕ) → AreClose x x
same_close x = (omega arith, omega arith)

before_close : (x : ℕ) → AreClose (x - 1) x
before_close x = (omega arith, omega arith)

-- a voxel one stride below another
step_close : (a : Axes) → IsWithinLimits a → (v w c : ℕ) → c < 3 → w < voxel_count a → 0 < coordinate a w c
    → v + stride a c ≡ w → AreCloseVoxels a v w
step_close a limits v w c lt below = each_axis (λ d. 0 < coordinate a w d → v + stride a d ≡ w → AreCloseVoxels a v w) c lt
    (λ some is. close_places a v w (x - 1) y z x y z
    (record { in_x = omega (arith, place.in_x); in_y = place.in_y; in_z = place.in_z }) place
    (omega (arith, here)) here (before_close x) (same_close y) (same_close z))
    (λ some is. close_places a v w x (y - 1) z x y z
    (record { in_x = place.in_x; in_y = omega (arith, place.in_y); in_z = place.in_z }) place
    (let less : y - 1 + 1 ≡ y = omega arith in
    let row : a.nx * (y - 1) + a.nx ≡ a.nx * y = omega (arith, ap (λ t. a.nx * t) less) in
    omega (arith, here)) here (same_close x) (before_close y) (same_close z))
    (λ some is. close_places a v w x y (z - 1) x y z
    (record { in_x = place.in_x; in_y = place.in_y; in_z = omega (arith, place.in_z) }) place
    (let less : z - 1 + 1 ≡ z = omega arith in
    let layer : a.nx * a.ny * (z - 1) + a.nx * a.ny ≡ a.nx * a.ny * z = omega (arith, ap (λ t. a.nx * a.ny * t) less) in
    omega (arith, here)) here (same_close x) (same_close y) (before_close z))
  where
    x : ℕ
    x = coordinate a w 0

    y : ℕ
    y = coordinate a w 1

    z : ℕ
    z = coordinate a w 2

    place : IsPlace a x y z
    place = place-voxel a w limits below

    here : w ≡ voxel_at a x y z
    here = sym (voxel_at-place a w)

ends_close : (a : Axes) → IsWithinLimits a → (e : ℕ) → IsTrue (is_edge a e)
    → AreCloseVoxels a (lower_end a e) (higher_end e)
ends_close a limits e edge = step_close a limits (lower_end a e) (higher_end e) (e % 3) (omega arith)
    (higher_end_below a e edge) (edge_is a e edge).inside (lower-stride a e edge)

-- neighbours are close voxels
pub neighbours_close : (a : Axes) → IsWithinLimits a → (v w : ℕ) → AreNeighbours a v w → AreCloseVoxels a v w
neighbours_close a limits v w (e, edge, inl (l, h)) =
    subst (λ u. AreCloseVoxels a v u) h (subst (λ u. AreCloseVoxels a u (higher_end e)) l (ends_close a limits e edge))
neighbours_close a limits v w (e, edge, inr (l, h)) =
    close_swap a w v
    (subst (λ u. AreCloseVoxels a w u) h (subst (λ u. AreCloseVoxels a u (higher_end e)) l (ends_close a limits e edge)))

-- the ends of an edge are voxels
pub neighbour_below : (a : Axes) (v w : ℕ) → AreNeighbours a v w → w < voxel_count a
neighbour_below a v w (e, edge, inl (l, h)) = subst (λ u. u < voxel_count a) h (higher_end_below a e edge)
neighbour_below a v w (e, edge, inr (l, h)) =
    subst (λ u. u < voxel_count a) l (omega (arith, higher_end_below a e edge, lower_below_higher a e edge))
