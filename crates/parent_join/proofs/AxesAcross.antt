-- The contacts from child to child of a node, axis by axis.
use Rattle.std.proofs.Common.{◌≡◌, ℕ, ◌+◌, ◌*◌, ◌/◌, ◌%◌, ◌<◌, ◌≤◌, Bool, ◌&&◌, ◌||◌, eqb, ltb, List, [], get_or, IsTrue, sym, ap, ◌∙◌, subst, arith}
use Rattle.std.proofs.lemmas.Bool.{eqb-true}
use mathlib.Core.Path.{fun_ext}
use Rattle.agglo_model.specs.Axes.{Axes, voxel_count, edge_count, coordinate, is_edge}
use Rattle.agglo_model.specs.Grid.{Grid}
use Rattle.agglo_model.specs.Contacts.{joins, total}
use Rattle.agglo_model.specs.Cutting.{Chunking, IsChunking, node_count, low_corner, high_corner, child_count, child}
use Rattle.agglo_model.specs.RegionGraph.{GraphEdge, contact_in}
use Rattle.agglo_model.specs.Joining.{is_crossing}
use Rattle.agglo_model.proofs.GraphContacts.{none-added}
use Rattle.agglo_model.proofs.Totals.{total-tie-le}
use Rattle.agglo_model.proofs.Tests.{alike}
use Rattle.region_graph.specs.Lists.{AreOrdered, count_of}
use Rattle.region_graph.specs.Boxes.{GainsContacts, ends_among, in_box}
use Rattle.region_graph.proofs.ContactGains.{gains-nothing, gains-both, gains-same}
use Rattle.region_graph.proofs.AxisContacts.{no_axis, axes_apart, axis_more, all_axes}
use Rattle.parent_join.specs.Across.{across}
use Rattle.parent_join.proofs.CrossingLayers.{crossing_is}

-- voxel v lies in the box, at the coordinate that is told for the axis
abbrev pub at_plane : Axes → List ℕ → List ℕ → List ℕ → ℕ → ℕ → Bool
at_plane a lo hi planes axis v = in_box a lo hi v && eqb (coordinate a v axis) (get_or planes axis 0)

-- an edge on one of the first k axes whose higher end lies there
abbrev pub crossing_to : Axes → List ℕ → List ℕ → List ℕ → ℕ → ℕ → Bool
crossing_to a lo hi planes k e = ltb (e % 3) k && at_plane a lo hi planes (e % 3) (e / 3)

-- the contacts on the first k axes were gained
pub record AreAxesCrossed (g : Grid) (labels lo hi planes : List ℕ) (k : ℕ) (now : List GraphEdge) : Type 0 where
  pub gains : GainsContacts g labels (crossing_to g.axes lo hi planes k) [] now
  pub count : count_of now ≤ k * voxel_count g.axes

pub axes-none : (g : Grid) (labels lo hi planes : List ℕ) → AreAxesCrossed g labels lo hi planes 0 []
axes-none g labels lo hi planes = record {
  gains = gains-nothing g labels (crossing_to g.axes lo hi planes 0) []
      (λ x y e. no_axis (joins g labels x y e) (at_plane g.axes lo hi planes (e % 3) (e / 3)) (e % 3));
  count = omega arith;
}

-- one axis more, by a box whose voxels are those at the plane
pub axes-more : (g : Grid) (labels lo hi planes from to : List ℕ) (k : ℕ) (now after : List GraphEdge)
    → AreAxesCrossed g labels lo hi planes k now → ((v : ℕ) → in_box g.axes from to v ≡ at_plane g.axes lo hi planes k v)
    → GainsContacts g labels (ends_among k (in_box g.axes from to)) now after
    → count_of after ≤ count_of now + voxel_count g.axes → AreAxesCrossed g labels lo hi planes (k + 1) after
axes-more g labels lo hi planes from to k now after so_far layer gained count =
    let p = crossing_to g.axes lo hi planes k in
    let q = ends_among k (in_box g.axes from to) in
    let B : ℕ → ℕ → Bool = λ r e. at_plane g.axes lo hi planes r (e / 3) in
    record {
      gains = gains-same g labels (λ e. p e || q e) (crossing_to g.axes lo hi planes (k + 1)) [] after
          (λ e _. axis_more (e % 3) k (B (e % 3) e) (in_box g.axes from to (e / 3))
          (λ here. ap (λ r. B r e) (eqb-true (e % 3) k here) ∙ sym (layer (e / 3))))
          (gains-both g labels p q [] now after
          (λ e. axes_apart (e % 3) k (B (e % 3) e) (in_box g.axes from to (e / 3))) so_far.gains gained);
      count = let so_many = so_far.count in omega (arith, so_many, count);
    }

-- all edges from child to child of a node
pub axes-contacts : (g : Grid) (labels : List ℕ) (c : Chunking) (m : ℕ) (now : List GraphEdge) → IsChunking c → c.axes ≡ g.axes
    → m < node_count c → 0 < child_count c m
    → AreAxesCrossed g labels (low_corner c m) (high_corner c m) (high_corner c (child c m 0)) 3 now
    → (x y : ℕ) → contact_in (edge_count g.axes) now x y ≡ across g c m labels x y
axes-contacts g labels c m now h same node some all x y =
    let n = edge_count g.axes in
    let planes = high_corner c (child c m 0) in
    let crosses = crossing_to g.axes (low_corner c m) (high_corner c m) planes 3 in
    all.gains.contacts x y
    ∙ none-added n (total g (λ e. joins g labels x y e && crosses e)) (total-tie-le g (λ e. joins g labels x y e && crosses e))
    ∙ ap (total g) (fun_ext (λ e. alike (is_edge g.axes e) _ _ (crosses e) (is_crossing c m e) (λ edge.
    all_axes e (at_plane g.axes (low_corner c m) (high_corner c m) planes (e % 3) (e / 3))
    ∙ subst (λ a. IsTrue (is_edge a e) → at_plane a (low_corner c m) (high_corner c m) planes (e % 3) (e / 3) ≡ is_crossing c m e)
    same (λ t. crossing_is c h m node some e t) edge)))

pub axes-ordered : (g : Grid) (labels lo hi planes : List ℕ) (k : ℕ) (now : List GraphEdge)
    → AreAxesCrossed g labels lo hi planes k now → AreOrdered now
axes-ordered g labels lo hi planes k now all = all.gains.ordered (λ i d below. absurd (omega arith))
