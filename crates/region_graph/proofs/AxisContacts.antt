-- The contacts inside a block, axis by axis, and those inside the cell of a node.
use Rattle.std.proofs.Common.{◌≡◌, ℕ, ◌+◌, ◌*◌, ◌/◌, ◌%◌, ◌<◌, ◌≤◌, Bool, true, false, ◌&&◌, ◌||◌, eqb, ltb, List, [], get_or, IsTrue, refl, sym, ap, ◌∙◌, subst, arith}
use Rattle.std.proofs.lemmas.Bool.{eqb-true, lt-ltb}
use Rattle.std.proofs.lemmas.Bool.Decides.{nat_tests}
use Rattle.std.proofs.Math.Nat.{mul-le-mul_right}
use mathlib.Core.Path.{fun_ext}
use Rattle.agglo_model.specs.Axes.{Axes, edge_count, coordinate, is_edge}
use Rattle.agglo_model.specs.Grid.{Grid}
use Rattle.agglo_model.specs.Contacts.{joins, total}
use Rattle.agglo_model.specs.Cutting.{Chunking, IsChunking, node_count, low_corner, high_corner}
use Rattle.agglo_model.specs.Freezing.{is_inside}
use Rattle.agglo_model.specs.RegionGraph.{GraphEdge, contact_in, between_inside}
use Rattle.agglo_model.proofs.GraphContacts.{none-added}
use Rattle.agglo_model.proofs.Totals.{total-tie-le}
use Rattle.agglo_model.proofs.Tests.{alike}
use Rattle.region_graph.specs.Lists.{count_of}
use Rattle.region_graph.specs.Boxes.{GainsContacts, IsBlock, ends_above, ends_among, in_box, raised_low, volume_of}
use Rattle.region_graph.proofs.Halves.{raised_in, raised_volume}
use Rattle.region_graph.proofs.ContactGains.{gains-nothing, gains-both, gains-same}
use Rattle.region_graph.proofs.InsideEdges.{inside_is}
use Rattle.region_graph.proofs.Layers.{above_in}

-- an edge on one of the first k axes with its higher end in the block and its lower end in the larger box
abbrev pub ends_to : Axes → List ℕ → List ℕ → List ℕ → ℕ → ℕ → Bool
ends_to a outer_lo lo hi k e = ltb (e % 3) k && in_box a (raised_low outer_lo lo (e % 3)) hi (e / 3)

-- the contacts on the first k axes were gained
pub record AreAxesSummed (g : Grid) (labels outer_lo lo hi : List ℕ) (k : ℕ) (before now : List GraphEdge) : Type 0 where
  pub gains : GainsContacts g labels (ends_to g.axes outer_lo lo hi k) before now
  pub count : count_of now ≤ count_of before + k * volume_of lo hi

pub no_axis : (j b : Bool) (r : ℕ) → (j && (ltb r 0 && b)) ≡ false
no_axis j b r = grind (arith, nat_tests)

pub axes-none : (g : Grid) (labels outer_lo lo hi : List ℕ) (es : List GraphEdge) → AreAxesSummed g labels outer_lo lo hi 0 es es
axes-none g labels outer_lo lo hi es = record {
  gains = gains-nothing g labels (ends_to g.axes outer_lo lo hi 0) es
      (λ x y e. no_axis (joins g labels x y e) (in_box g.axes (raised_low outer_lo lo (e % 3)) hi (e / 3)) (e % 3));
  count = omega arith;
}

pub axes_apart : (r k : ℕ) (b d : Bool) → ((ltb r k && b) && (eqb r k && d)) ≡ false
axes_apart r k b d = grind (arith, nat_tests)

pub axis_more : (r k : ℕ) (b d : Bool) → (eqb r k ≡ true → b ≡ d) → ((ltb r k && b) || (eqb r k && d)) ≡ (ltb r (k + 1) && b)
axis_more r k b d same = by_cases (eqb r k) refl
  where
    here_of : (r k : ℕ) (d : Bool) → eqb r k ≡ true → ((ltb r k && d) || (eqb r k && d)) ≡ (ltb r (k + 1) && d)
    here_of r k d here = grind (arith, nat_tests)

    other_of : (r k : ℕ) (b d : Bool) → eqb r k ≡ false → ((ltb r k && b) || (eqb r k && d)) ≡ (ltb r (k + 1) && b)
    other_of r k b d other = grind (arith, nat_tests)

    by_cases : (t : Bool) → eqb r k ≡ t → ((ltb r k && b) || (eqb r k && d)) ≡ (ltb r (k + 1) && b)
    by_cases true here = subst (λ z. ((ltb r k && z) || (eqb r k && d)) ≡ (ltb r (k + 1) && z)) (sym (same here)) (here_of r k d here)
    by_cases false other = other_of r k b d other

-- one axis more
pub axes-more : (g : Grid) (labels outer_lo lo hi : List ℕ) (k : ℕ) (before now after : List GraphEdge) → k < 3
    → IsBlock g.axes outer_lo lo hi → AreAxesSummed g labels outer_lo lo hi k before now
    → GainsContacts g labels (ends_among k (in_box g.axes (raised_low outer_lo lo k) hi)) now after
    → count_of after ≤ count_of now + volume_of (raised_low outer_lo lo k) hi → AreAxesSummed g labels outer_lo lo hi (k + 1) before after
axes-more g labels outer_lo lo hi k before now after three block so_far gained count =
    let p = ends_to g.axes outer_lo lo hi k in
    let q = ends_among k (in_box g.axes (raised_low outer_lo lo k) hi) in
    let B : ℕ → ℕ → Bool = λ r e. in_box g.axes (raised_low outer_lo lo r) hi (e / 3) in
    record {
      gains = gains-same g labels (λ e. p e || q e) (ends_to g.axes outer_lo lo hi (k + 1)) before after
          (λ e _. axis_more (e % 3) k (B (e % 3) e) (B k e) (λ here. ap (λ r. B r e) (eqb-true (e % 3) k here)))
          (gains-both g labels p q before now after (λ e. axes_apart (e % 3) k (B (e % 3) e) (B k e)) so_far.gains gained);
      count =
          let so_many = so_far.count in
          let less = raised_volume g.axes outer_lo lo hi k three block in
          omega (arith, so_many, count, less);
    }

-- there is room for one axis more
pub axes-room : (v w k before now most : ℕ) → k < 3 → now ≤ before + k * v → w ≤ v → before + 3 * v ≤ most → now + w ≤ most
axes-room v w k before now most three count less room =
    let more : (k + 1) * v ≤ 3 * v = mul-le-mul_right v (omega arith) in
    omega (arith, more)

pub all_axes : (e : ℕ) (b : Bool) → (ltb (e % 3) 3 && b) ≡ b
all_axes e b = let less : e % 3 < 3 = omega arith in ap (λ t. t && b) (lt-ltb (e % 3) 3 less)

-- all axes of a block
pub axes-all : (g : Grid) (labels outer_lo lo hi : List ℕ) (es fs : List GraphEdge) → IsBlock g.axes outer_lo lo hi
    → AreAxesSummed g labels outer_lo lo hi 3 es fs → GainsContacts g labels (ends_above g.axes outer_lo lo hi) es fs
axes-all g labels outer_lo lo hi es fs block all =
    gains-same g labels (ends_to g.axes outer_lo lo hi 3) (ends_above g.axes outer_lo lo hi) es fs
    (λ e _. let three : e % 3 < 3 = omega arith in
    all_axes e (in_box g.axes (raised_low outer_lo lo (e % 3)) hi (e / 3))
    ∙ raised_in g.axes outer_lo lo hi (e % 3) (e / 3) three block.lo_three) all.gains

turned : (b c : Bool) → (b && c) ≡ (c && b)
turned true true = refl
turned true false = refl
turned false true = refl
turned false false = refl

-- all edges with both ends in the cell of a node
pub block-contacts : (g : Grid) (labels : List ℕ) (c : Chunking) (m : ℕ) (now : List GraphEdge) → IsChunking c → c.axes ≡ g.axes
    → m < node_count c → GainsContacts g labels (ends_above g.axes (low_corner c m) (low_corner c m) (high_corner c m)) [] now
    → (x y : ℕ) → contact_in (edge_count g.axes) now x y ≡ between_inside g c m labels x y
block-contacts g labels c m now h same node gained x y =
    let n = edge_count g.axes in
    let lo = low_corner c m in
    let hi = high_corner c m in
    let inside = ends_above g.axes lo lo hi in
    gained.contacts x y
    ∙ none-added n (total g (λ e. joins g labels x y e && inside e)) (total-tie-le g (λ e. joins g labels x y e && inside e))
    ∙ ap (total g) (fun_ext (λ e. alike (is_edge g.axes e) _ _ (inside e) (is_inside c m e) (λ edge.
    subst (λ a. IsTrue (is_edge a e) → ends_above a lo lo hi e ≡ is_inside c m e) same
    (λ t. let three : e % 3 < 3 = omega arith in
    turned (ltb (get_or lo (e % 3) 0) (coordinate c.axes (e / 3) (e % 3))) (in_box c.axes lo hi (e / 3))
    ∙ sym (above_in c.axes lo hi (e % 3) (e / 3) three refl) ∙ inside_is c h m e node t) edge)))
