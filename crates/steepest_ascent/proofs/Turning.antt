-- How the ascent goes on: from the best steps at both ends of an edge.
use Rattle.std.proofs.Common.{◌≡◌, ◌≢◌, ℕ, ◌+◌, ◌*◌, ◌-◌, ◌/◌, ◌%◌, ◌<◌, ◌≤◌, Option, Some, List, length, get_or, min, sym, ◌∙◌, ap, subst, subst₂, inl, inr, arith, lit<}
use Rattle.std.proofs.lemmas.List.{get_or_read}
use Rattle.agglo_model.specs.Axes.{Axes, AreEnds, IsWithinLimits, coordinate, stride, lower_end, higher_end}
use Rattle.agglo_model.specs.Grid.{Grid}
use Rattle.agglo_model.specs.EdgeOrder.{IsBest, HasNoBest}
use Rattle.agglo_model.proofs.Edges.{stride-le, edge_is, lower_below_higher}
use Rattle.agglo_model.proofs.BestEdge.{best_of_strong}
use Rattle.agglo_model.proofs.Ascent.{strong_across}
use Rattle.edge_order.specs.Steps.{edge_at, IsBestStep, reversed, LeadsTo}
use Rattle.edge_order.proofs.Steps.{leads_across, reversed_edge, same_step, edge_of_best, has_edge}
use Rattle.edge_order.specs.declared.step.Step.{Step}
use Rattle.edge_order.specs.declared.step.Step.TheVariants.{Stay, BackY, BackZ}
use Rattle.edge_order.specs.Steps.{AreBestSteps}
use Rattle.steepest_ascent.specs.Turns.{EndsWith, ClimbsTo}

-- a voxel with an edge to its predecessor on an axis has a number of at least the stride
pub reaches_back : (g : Grid) (low v c : ℕ) → c < 3 → IsBest g low v (3 * v + c) → stride g.axes c ≤ v
reaches_back g low v c lt b =
    let q : (3 * v + c) / 3 ≡ v = omega arith in
    let r : (3 * v + c) % 3 ≡ c = omega arith in
    stride-le g.axes v c lt (subst₂ (λ u d. 0 < coordinate g.axes u d) q r (edge_is g.axes (3 * v + c) b.strong.edge).inside)

pub back_y : (g : Grid) (low v row : ℕ) (s : Step) → IsBestStep g low v s → s ≡ BackY → row ≡ g.axes.nx → row ≤ v
back_y g low v row s best is row_is =
    let b : IsBest g low v (3 * v + 1) = subst (λ t. IsBestStep g low v t) is best in
    let h : g.axes.nx ≤ v = reaches_back g low v 1 (lit< tt) b in
    omega arith

pub back_z : (g : Grid) (low v layer : ℕ) (s : Step) → IsBestStep g low v s → s ≡ BackZ
    → layer ≡ g.axes.nx * g.axes.ny → layer ≤ v
back_z g low v layer s best is layer_is =
    let b : IsBest g low v (3 * v + 2) = subst (λ t. IsBestStep g low v t) is best in
    let h : g.axes.nx * g.axes.ny ≤ v = reaches_back g low v 2 (lit< tt) b in
    omega arith

pub leads_y : (g : Grid) (low v row : ℕ) (s : Step) → IsBestStep g low v s → s ≡ BackY → row ≡ g.axes.nx
    → LeadsTo g.axes v s (v - row)
leads_y g low v row s best is row_is =
    let le : row ≤ v = back_y g low v row s best is row_is in
    let h : v - row + g.axes.nx ≡ v = omega arith in
    subst (λ t. LeadsTo g.axes v t (v - row)) (sym is) h

pub leads_z : (g : Grid) (low v layer : ℕ) (s : Step) → IsBestStep g low v s → s ≡ BackZ
    → layer ≡ g.axes.nx * g.axes.ny → LeadsTo g.axes v s (v - layer)
leads_z g low v layer s best is layer_is =
    let le : layer ≤ v = back_z g low v layer s best is layer_is in
    let h : v - layer + g.axes.nx * g.axes.ny ≡ v = omega arith in
    subst (λ t. LeadsTo g.axes v t (v - layer)) (sym is) h

-- the step that the table has for a voxel
pub step_read : (g : Grid) (low v : ℕ) (steps : List Step) (s : Step) → AreBestSteps g low steps
    → v < length steps → s ≡ get_or steps v s → IsBestStep g low v s
step_read g low v steps s best lt is =
    subst (λ t. IsBestStep g low v t) (sym (get_or_read steps v s lt is Stay)) (best v lt)

-- the lower end is the lesser of both
least_end : (a : Axes) (e v w : ℕ) → lower_end a e < higher_end e → AreEnds a e v w → min v w ≡ lower_end a e
least_end a e v w lt (inl (l, h)) = omega arith
least_end a e v w lt (inr (l, h)) = omega arith

turned : (a : Axes) (e v w : ℕ) → AreEnds a e v w → AreEnds a e w v
turned a e v w (inl p) = inr p
turned a e v w (inr p) = inl p

-- where both ends step along the same edge, the ascent from each ends there
ends_both : (g : Grid) (low v w name : ℕ) (s t : Step) → IsBestStep g low v s → s ≢ Stay
    → LeadsTo g.axes v s w → IsBestStep g low w t → t ≡ reversed s → name ≡ min v w + 1
    → EndsWith g low v name × EndsWith g low w name
ends_both g low v w name s t best ne leads far back name_is =
    let edge = has_edge g.axes v s ne in
    let e = edge.0 in
    let here : IsBest g low v e = edge_of_best g low v e s best edge.1 in
    let there : IsBest g low w e = edge_of_best g low w e t far
    (ap (edge_at g.axes w) back ∙ reversed_edge g.axes v w s leads ∙ edge.1) in
    let ends : AreEnds g.axes e v w = leads_across g.axes v w e s leads edge.1 in
    let least : name ≡ lower_end g.axes e + 1 =
    name_is ∙ ap (λ x. x + 1) (least_end g.axes e v w (lower_below_higher g.axes e here.strong.edge) ends) in (
      record { edge = e; far = w; best = here; ends = ends; both = there; name_is = least },
      record { edge = e; far = v; best = there; ends = turned g.axes e v w ends; both = here; name_is = least },
    )

pub ends_with : (g : Grid) (low v w name : ℕ) (s t : Step) → IsBestStep g low v s → s ≢ Stay
    → LeadsTo g.axes v s w → IsBestStep g low w t → t ≡ reversed s → name ≡ min v w + 1
    → EndsWith g low v name
ends_with g low v w name s t best ne leads far back name_is =
    (ends_both g low v w name s t best ne leads far back name_is).0

pub ends_there : (g : Grid) (low v w name : ℕ) (s t : Step) → IsBestStep g low v s → s ≢ Stay
    → LeadsTo g.axes v s w → IsBestStep g low w t → t ≡ reversed s → name ≡ min v w + 1
    → EndsWith g low w name
ends_there g low v w name s t best ne leads far back name_is =
    (ends_both g low v w name s t best ne leads far back name_is).1

-- the far end steps along another edge
pub climbs_to : (g : Grid) (low v w : ℕ) (s t : Step) → IsWithinLimits g.axes → IsBestStep g low v s → s ≢ Stay
    → LeadsTo g.axes v s w → IsBestStep g low w t → t ≢ reversed s → ClimbsTo g low v w
climbs_to g low v w s t limits best ne leads far other =
    let edge = has_edge g.axes v s ne in
    let e = edge.0 in
    let b : IsBest g low v e = edge_of_best g low v e s best edge.1 in
    let ends : AreEnds g.axes e v w = leads_across g.axes v w e s leads edge.1 in
    let back_is : edge_at g.axes w (reversed s) ≡ Some e = reversed_edge g.axes v w s leads ∙ edge.1 in
    let there = best_of_strong g low w e (strong_across g low e v w ends b.strong) in
    let moves : t ≢ Stay = λ stays.
    (let none : HasNoBest g low w = subst (λ u. IsBestStep g low w u) stays far in none there.0 there.1) in
    let next = has_edge g.axes w t moves in
    record {
      edge = e;
      next = next.0;
      best = b;
      ends = ends;
      far_best = edge_of_best g low w next.0 t far next.1;
      other = λ same. other (same_step g.axes w e t (reversed s) limits
          (next.1 ∙ ap {B = Option ℕ} Some same) back_is);
    }
