-- The layers of a node's cell where its first child ends.
use Rattle.std.proofs.Common.{◌≡◌, ℕ, ◌+◌, ◌*◌, ◌^◌, ◌<◌, ◌≤◌, List, get_or, ap, ◌∙◌, arith}
use Rattle.std.proofs.Math.Nat.{mul-le-mul_right}
use Rattle.agglo_model.specs.Axes.{Axes}
use Rattle.agglo_model.specs.Cutting.{Chunking, IsChunking, node_count, low_corner, high_corner, child_count, child}
use Rattle.region_graph.specs.Boxes.{IsBox, in_box}
use Rattle.region_graph.proofs.Layers.{AreCorners, corners_are, corners_box, corners_three, some_box}
use Rattle.parent_join.specs.Across.{layer_from, layer_to}
use Rattle.parent_join.proofs.AxesAcross.{at_plane}
use Rattle.parent_join.proofs.CrossingLayers.{low_at, high_at}
use Rattle.parent_join.proofs.FirstChild.{first_within, first_after}
use Rattle.parent_join.proofs.Planes.{layer_in, layer_box, layer_low}

-- the corners of the cell of node m, and the high corner of its first child's
pub record AreCells (c : Chunking) (m : ℕ) (lo hi planes : List ℕ) : Type 0 where
  pub corners : AreCorners c m lo hi
  pub planes_are : planes ≡ high_corner c (child c m 0)

pub cells_are : (c d : Chunking) (m kid : ℕ) (lo hi planes : List ℕ) → c ≡ d → lo ≡ low_corner c m → hi ≡ high_corner c m
    → kid ≡ child c m 0 → planes ≡ high_corner c kid → AreCells d m lo hi planes
cells_are c d m kid lo hi planes same low high first ends = record {
  corners = corners_are c d m lo hi same low high;
  planes_are = ends ∙ ap (high_corner c) first ∙ ap (λ t. high_corner t (child t m 0)) same;
}

module _ (c : Chunking) (h : IsChunking c) (m : ℕ) (node : m < node_count c) (some : 0 < child_count c m) (a : Axes)
    (same : c.axes ≡ a) (lo hi planes : List ℕ) (are : AreCells c m lo hi planes) (axis : ℕ) (three : axis < 3) where
  pub ends_within : get_or planes axis 0 ≤ get_or hi axis 0
  ends_within =
      let first = ap (λ l. get_or l axis 0) are.planes_are ∙ high_at c h m node some (child c m 0) axis three in
      let whole = ap (λ l. get_or l axis 0) are.corners.high ∙ high_at c h m node some m axis three in
      let within = first_within c h m node some axis three in
      omega (arith, first, whole, within)

  ends_after : get_or lo axis 0 < get_or planes axis 0
  ends_after =
      let first = ap (λ l. get_or l axis 0) are.planes_are ∙ high_at c h m node some (child c m 0) axis three in
      let whole = ap (λ l. get_or l axis 0) are.corners.low ∙ low_at c h m node some m axis three in
      let after = first_after c h m node some axis three in
      omega (arith, first, whole, after)

  pub plane_box : IsBox a (layer_from lo axis (get_or planes axis 0)) (layer_to hi axis (get_or planes axis 0))
  plane_box =
      let lengths = corners_three c m lo hi are.corners in
      layer_box a lo hi axis (get_or planes axis 0) three lengths.0 lengths.1
      (some_box a lo hi (corners_box c a m lo hi h same node are.corners)) ends_within

  pub plane_inner : 0 < get_or (layer_from lo axis (get_or planes axis 0)) axis 0
  plane_inner =
      let lengths = corners_three c m lo hi are.corners in
      let low = layer_low lo axis (get_or planes axis 0) three lengths.0 in
      let after = ends_after in
      omega (arith, low, after)

  pub plane_in : (v : ℕ) → in_box a (layer_from lo axis (get_or planes axis 0)) (layer_to hi axis (get_or planes axis 0)) v
      ≡ at_plane a lo hi planes axis v
  plane_in v =
      let lengths = corners_three c m lo hi are.corners in
      let after = ends_after in
      layer_in a lo hi axis (get_or planes axis 0) v three lengths.0 lengths.1 (omega (arith, after))

pub few_axes : (k n count : ℕ) → k < 3 → n ≤ 2 ^ 28 → count ≤ k * n → count + n ≤ 3 * 2 ^ 28
few_axes k n count below most few =
    let two : k ≤ 2 = omega arith in
    let more : k * n ≤ 2 * n = mul-le-mul_right n two in
    omega (arith, most, few, more)
