use Rattle.std.proofs.Common.{◌≡◌, ◌+◌, ◌<◌, true, false, get_or, sym, ap, ◌∙◌, subst}
use Rattle.agglo_model.specs.Axes.{Axes, voxel_at, voxel_count}
use Rattle.edge_order.specs.Steps.{IsBestStep, LeadsTo, leads_within}
use Rattle.edge_order.specs.declared.step.Step.{Step}
use Rattle.steepest_ascent.specs.CellEnds.{IsEndOf}
use Rattle.steepest_ascent.specs.Charts.{Chart, IsCharted, own_grid, step_of, voxel_of}
use Rattle.steepest_ascent.proofs.CellTurning.{best_in_cell, step_read_in, voxel_of-place, leads_within-place, leaves_cell}
use Rattle.steepest_ascent.proofs.CellFilling.{gains_end, gains_none}
use Rattle.steepest_ascent.proofs.cell_ascent.CellAscent.mark.Goals as goal
use Rattle.steepest_ascent.proofs.cell_ascent.CellAscent.mark.Goals.{After-index-step, After-voxel-v}

-- what is known of the place in the cell, whose number is i
record IsAtPlace (c : After-index-step) : Type 0 where
  charted : IsCharted c.args.self.now c.self.inside.grid
  below : c.voxel-i.result < voxel_count (own_grid c.args.self.now)
  i_is : c.voxel-i.result ≡ voxel_at (own_grid c.args.self.now) c.args.x c.args.y c.args.z
  step_is : c.index-step.result.now ≡ step_of c.args.self.now c.voxel-i.result

at_place : (c : After-index-step) → IsAtPlace c
at_place c =
    let t : Chart = c.args.self.now in
    let own : Axes = c.self.inside.grid in
    let i = c.voxel-i.result in
    let h : IsCharted t own = subst (λ u. IsCharted u own) c.self.view_is c.self.invariant in
    let lt : i < voxel_count (own_grid t) = subst (λ a. i < voxel_count a) h.own_is c.voxel-i.ensures.voxel in
    record {
      charted = h;
      below = lt;
      i_is = c.voxel-i.ensures.value ∙ ap (λ a. voxel_at a c.args.x c.args.y c.args.z) h.own_is;
      step_is = step_read_in t own _ i c.index-step.result.now h (ap (λ (u : Chart). u.steps) c.self.view_is) lt c.index-step.ensures;
    }

-- the voxel of the volume there
voxel_is : (c : After-voxel-v) → c.voxel-v.result ≡ voxel_of c.args.self.now c.voxel-i.result
voxel_is c =
    let t : Chart = c.args.self.now in
    voxel_of-place t c.args.x c.args.y c.args.z c.voxel-i.result c.voxel-v.result c.requires.place
    (at_place (goal.at.After-voxel-v c).After-index-step).i_is
    (c.voxel-v.ensures.value
    ∙ ap (λ a. voxel_at a (get_or c.self.inside.cell.lo 0 0 + c.args.x) (get_or c.self.inside.cell.lo 1 0 + c.args.y) (get_or c.self.inside.cell.lo 2 0 + c.args.z)) c.dims.ensures.value
    ∙ ap (λ (u : Chart). voxel_at u.grid.axes (get_or u.cell.lo 0 0 + c.args.x) (get_or u.cell.lo 1 0 + c.args.y) (get_or u.cell.lo 2 0 + c.args.z)) c.self.view_is)

pub outer_end-requires-clause-best : goal.outer_end-requires-clause-best
outer_end-requires-clause-best c =
    let t : Chart = c.args.self.now in
    let s : Step = c.index-step.result.now in
    let known = at_place (goal.at.outer_end-requires-clause-best c).After-index-step in
    subst (λ v. IsBestStep t.grid t.low v s) (sym (voxel_is (goal.at.outer_end-requires-clause-best c).After-voxel-v))
    (best_in_cell t c.self.inside.grid c.voxel-i.result s known.charted known.below known.step_is)

pub outer_end-requires-clause-leaves : goal.outer_end-requires-clause-leaves
outer_end-requires-clause-leaves c = λ w leads inside.
    let t : Chart = c.args.self.now in
    let own : Axes = c.self.inside.grid in
    let i = c.voxel-i.result in
    let s : Step = c.index-step.result.now in
    let known = at_place (goal.at.outer_end-requires-clause-leaves c).After-index-step in
    let v_is = voxel_is (goal.at.outer_end-requires-clause-leaves c).After-voxel-v in
    let out : leads_within (own_grid t) i s ≡ false =
    leads_within-place t own c.args.x c.args.y c.args.z i s known.charted c.requires.place known.i_is
    ∙ sym c.leads_within.ensures ∙ c.if-not-leads_within.true in
    leaves_cell t own i w s known.charted known.below known.step_is out (subst (λ v. LeadsTo t.grid.axes v s w) v_is leads) inside

pub returns-then-not-leads_within-clause-gains : goal.returns-then-not-leads_within-clause-gains
returns-then-not-leads_within-clause-gains c =
    let t : Chart = c.args.self.now in
    let i = c.voxel-i.result in
    let known = at_place (goal.at.returns-then-not-leads_within-clause-gains c).After-index-step in
    let v_is = voxel_is (goal.at.returns-then-not-leads_within-clause-gains c).After-voxel-v in
    gains_end t c.args.ends.now c.args.ends.now i c.outer_end.result (subst (λ n. i < n) (sym c.requires.one_each) known.below)
    (gains_none t c.args.ends.now)
    (subst (λ v. IsEndOf t.grid t.low t.cell v c.outer_end.result) v_is c.outer_end.ensures.end) c.outer_end.ensures.known

pub returns-else-not-leads_within-clause-within : goal.returns-else-not-leads_within-clause-within
returns-else-not-leads_within-clause-within c = λ none.
    let t : Chart = c.args.self.now in
    let own : Axes = c.self.inside.grid in
    let i = c.voxel-i.result in
    let s : Step = c.index-step.result.now in
    let known = at_place (goal.at.returns-else-not-leads_within-clause-within c).After-index-step in
    let inside : leads_within (own_grid t) i s ≡ true =
    leads_within-place t own c.args.x c.args.y c.args.z i s known.charted c.requires.place known.i_is
    ∙ sym c.leads_within.ensures ∙ c.if-not-leads_within.false in
    subst (λ j. leads_within (own_grid t) j (step_of t j) ≡ true) known.i_is
    (subst (λ u. leads_within (own_grid t) i u ≡ true) known.step_is inside)
