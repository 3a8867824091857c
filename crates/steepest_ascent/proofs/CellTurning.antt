-- How the ascent goes on from a voxel of a cell, and where its end is known.
use Rattle.std.proofs.Common.{◌≡◌, ◌≢◌, ℕ, ◌+◌, ◌<◌, List, get_or, true, false, refl, sym, ◌∙◌, ap, subst, arith}
use Rattle.std.proofs.lemmas.List.{get_or_read}
use Rattle.agglo_model.specs.Axes.{Axes, IsPlace, voxel_at, voxel_count}
use Rattle.agglo_model.proofs.BoxPlaces.{IsBoxPlace, box_voxel-lt, box_voxel-place, box_voxel_in, place_of_box}
use Rattle.agglo_model.proofs.Places.{voxel_at-lt}
use Rattle.edge_order.specs.Steps.{IsBestStep, LeadsTo, leads_within, reversed, steps_within}
use Rattle.edge_order.specs.declared.step.Step.{Step}
use Rattle.edge_order.specs.declared.step.Step.TheVariants.{Stay}
use Rattle.edge_order.proofs.StepPlaces.{best_within, box_leads, leads_at_place, leaves_box, same_end}
use Rattle.steepest_ascent.specs.CellEnds.{IsInCell}
use Rattle.steepest_ascent.specs.Charts.{Chart, IsCharted, own_grid, step_of, voxel_of}
use Rattle.steepest_ascent.specs.CellTurns.{ClimbsWithin, EndsWithin, IsSpot}
use Rattle.steepest_ascent.specs.declared.cell_ascent.Spot.{Spot}
use Rattle.steepest_ascent.proofs.Turning.{ends_with, ends_there, climbs_to}

-- the place of a voxel of the cell
pub cell_place : (t : Chart) (own : Axes) (i : ℕ) → IsCharted t own → i < voxel_count (own_grid t)
    → IsBoxPlace t.grid.axes t.cell.lo t.cell.hi i
cell_place t own i h lt = place_of_box t.grid.axes t.cell.lo t.cell.hi i h.whole.limits h.box lt

-- its best step
pub best_in_cell : (t : Chart) (own : Axes) (i : ℕ) (s : Step) → IsCharted t own → i < voxel_count (own_grid t)
    → s ≡ step_of t i → IsBestStep t.grid t.low (voxel_of t i) s
best_in_cell t own i s h lt is =
    subst (λ u. IsBestStep t.grid t.low (voxel_of t i) u) (sym is) (h.best i (subst (λ n. i < n) (sym h.one_each) lt))

-- as it is read
pub step_read_in : (t : Chart) (own : Axes) (steps : List Step) (i : ℕ) (s : Step) → IsCharted t own → steps ≡ t.steps
    → i < voxel_count (own_grid t) → s ≡ get_or steps i s → s ≡ step_of t i
step_read_in t own steps i s h same lt is =
    get_or_read t.steps i s (subst (λ n. i < n) (sym h.one_each) lt) (is ∙ ap (λ l. get_or l i s) same) Stay

-- the voxel of the volume at a place in the cell
pub voxel_of-place : (t : Chart) (x y z i v : ℕ) → IsPlace (own_grid t) x y z → i ≡ voxel_at (own_grid t) x y z
    → v ≡ voxel_at t.grid.axes (get_or t.cell.lo 0 0 + x) (get_or t.cell.lo 1 0 + y) (get_or t.cell.lo 2 0 + z)
    → v ≡ voxel_of t i
voxel_of-place t x y z i v place i_is v_is =
    v_is ∙ sym (box_voxel-place t.grid.axes t.cell.lo t.cell.hi x y z place) ∙ ap (voxel_of t) (sym i_is)

-- whether its step leads within the cell
pub leads_within-place : (t : Chart) (own : Axes) (x y z i : ℕ) (s : Step) → IsCharted t own → IsPlace (own_grid t) x y z
    → i ≡ voxel_at (own_grid t) x y z → leads_within (own_grid t) i s ≡ steps_within own x y z s
leads_within-place t own x y z i s h place i_is =
    ap (λ j. leads_within (own_grid t) j s) i_is ∙ leads_at_place (own_grid t) x y z s place
    ∙ ap (λ a. steps_within a x y z s) (sym h.own_is)

-- where it does not, it leads to no voxel of the cell
pub leaves_cell : (t : Chart) (own : Axes) (i w : ℕ) (s : Step) → IsCharted t own → i < voxel_count (own_grid t)
    → s ≡ step_of t i → leads_within (own_grid t) i s ≡ false → LeadsTo t.grid.axes (voxel_of t i) s w
    → ¬ (IsInCell t.grid.axes t.cell w)
leaves_cell t own i w s h lt is out leads =
    leaves_box t.grid.axes t.cell.lo t.cell.hi i w s (cell_place t own i h lt) out
    (best_within t.grid t.low (voxel_of t i) s h.whole.limits
    (box_voxel-lt t.grid.axes t.cell.lo t.cell.hi i h.whole.limits h.box lt) (best_in_cell t own i s h lt is))
    leads

-- a step from voxel to voxel of the cell
pub leads_in_cell : (t : Chart) (own : Axes) (i j : ℕ) (s : Step) → IsCharted t own → i < voxel_count (own_grid t)
    → leads_within (own_grid t) i s ≡ true → LeadsTo (own_grid t) i s j
    → LeadsTo t.grid.axes (voxel_of t i) s (voxel_of t j)
leads_in_cell t own i j s h lt within leads =
    box_leads t.grid.axes t.cell.lo t.cell.hi i j s h.box (cell_place t own i h lt) within leads

-- a step from a voxel of the cell to another leads to the same voxel by both of its numbers
pub far_spot : (t : Chart) (own : Axes) (here far : Spot) (s : Step) → IsCharted t own → IsSpot t here
    → far.own < voxel_count (own_grid t) → leads_within (own_grid t) here.own s ≡ true
    → LeadsTo (own_grid t) here.own s far.own → LeadsTo t.grid.axes here.voxel s far.voxel → IsSpot t far
far_spot t own here far s h spot lt within leads to = record {
  in_cell = lt;
  same = same_end t.grid.axes here.voxel (voxel_of t far.own) far.voxel s
      (subst (λ v. LeadsTo t.grid.axes v s (voxel_of t far.own)) spot.same
      (leads_in_cell t own here.own far.own s h spot.in_cell within leads)) to;
}

-- the best step of a voxel by its number in the volume
pub best_of_spot : (t : Chart) (own : Axes) (spot : Spot) (s : Step) → IsCharted t own → IsSpot t spot
    → s ≡ step_of t spot.own → IsBestStep t.grid t.low spot.voxel s
best_of_spot t own spot s h at is =
    subst (λ v. IsBestStep t.grid t.low v s) at.same (best_in_cell t own spot.own s h at.in_cell is)

-- which leads to a voxel of the volume
pub spot_within : (t : Chart) (own : Axes) (spot : Spot) (s : Step) → IsCharted t own → IsSpot t spot
    → s ≡ step_of t spot.own → leads_within t.grid.axes spot.voxel s ≡ true
spot_within t own spot s h at is = best_within t.grid t.low spot.voxel s h.whole.limits
    (subst (λ v. v < voxel_count t.grid.axes) at.same
    (box_voxel-lt t.grid.axes t.cell.lo t.cell.hi spot.own h.whole.limits h.box at.in_cell))
    (best_of_spot t own spot s h at is)

-- both ends step along the same edge
pub cell_ends : (t : Chart) (own : Axes) (here far : Spot) (s u : Step) → IsCharted t own → IsSpot t here
    → IsSpot t far → s ≡ step_of t here.own → u ≡ step_of t far.own → s ≢ Stay
    → LeadsTo t.grid.axes here.voxel s far.voxel → u ≡ reversed s → EndsWithin t here far
cell_ends t own here far s u h at there s_is u_is moves to back =
    let best = best_of_spot t own here s h at s_is in
    let far_best = best_of_spot t own far u h there u_is in
    record {
      far_spot = there;
      here = ends_with t.grid t.low here.voxel far.voxel _ s u best moves to far_best back refl;
      there = ends_there t.grid t.low here.voxel far.voxel _ s u best moves to far_best back refl;
    }

-- the far end steps along another edge
pub cell_climbs : (t : Chart) (own : Axes) (here next : Spot) (s u : Step) → IsCharted t own → IsSpot t here
    → IsSpot t next → s ≡ step_of t here.own → u ≡ step_of t next.own → s ≢ Stay
    → LeadsTo t.grid.axes here.voxel s next.voxel → u ≢ reversed s → ClimbsWithin t here next
cell_climbs t own here next s u h at there s_is u_is moves to other = record {
  next_spot = there;
  inside = subst (λ v. IsInCell t.grid.axes t.cell v) there.same
      (box_voxel_in t.grid.axes t.cell.lo t.cell.hi next.own (cell_place t own next.own h there.in_cell));
  climbs = climbs_to t.grid t.low here.voxel next.voxel s u h.whole.limits (best_of_spot t own here s h at s_is) moves to
      (best_of_spot t own next u h there u_is) other;
}

-- a voxel by its place in its row
pub in_row : (a : Axes) (k y z : ℕ) → voxel_at a 0 y z + k ≡ voxel_at a k y z
in_row a k y z = omega arith

pub row_spot : (t : Chart) (k y z i v : ℕ) → IsPlace (own_grid t) k y z → i ≡ voxel_at (own_grid t) 0 y z
    → v ≡ voxel_at t.grid.axes (get_or t.cell.lo 0 0) (get_or t.cell.lo 1 0 + y) (get_or t.cell.lo 2 0 + z)
    → IsSpot t (record { own = i + k; voxel = v + k })
row_spot t k y z i v place i_is v_is =
    let here : i + k ≡ voxel_at (own_grid t) k y z = omega (arith, i_is) in
    record {
      in_cell = subst (λ n. n < voxel_count (own_grid t)) (sym here) (voxel_at-lt (own_grid t) k y z place);
      same = sym (voxel_of-place t k y z (i + k) (v + k) place here (omega (arith, v_is)));
    }
