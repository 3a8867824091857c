use Rattle.std.proofs.Common.{◌≡◌, ◌<◌, ◌∙◌, true, length, inr, sym, ap, subst}
use Rattle.agglo_model.specs.Axes.{Axes, voxel_count}
use Rattle.agglo_model.proofs.BoxPlaces.{box_voxel_in}
use Rattle.edge_order.specs.Steps.{LeadsTo, leads_within}
use Rattle.edge_order.specs.declared.step.Step.{Step}
use Rattle.steepest_ascent.specs.CellEnds.{end_at}
use Rattle.steepest_ascent.specs.Charts.{Chart, IsCharted, own_grid, step_of, voxel_of}
use Rattle.steepest_ascent.specs.declared.ends.End.TheVariants.{Background}
use Rattle.steepest_ascent.proofs.CellTurning.{best_in_cell, cell_place, leads_in_cell, step_read_in}
use Rattle.steepest_ascent.proofs.CellFilling.{end_along, gains_end, given_known, none_before}
use Rattle.steepest_ascent.proofs.cell_ascent.CellAscent.give.Goals as goal

pub loop-self-preserved : goal.loop-self-preserved
loop-self-preserved c =
    let t : Chart = c.args.self.now in
    let own : Axes = c.self.inside.grid in
    let here = c.loop-self.here in
    let ends = c.loop-self.ends in
    let s : Step = c.index.result.now in
    let next = c.far_end-here.result in
    let at = c.loop-self.invariant.voxel in
    let h : IsCharted t own = subst (λ u. IsCharted u own) c.self.view_is c.self.invariant in
    let s_is : s ≡ step_of t here = step_read_in t own _ here s h (ap (λ (u : Chart). u.steps) c.self.view_is) at c.index.ensures in
    let none : end_at ends here ≡ Background = c.is_background.ensures.0 c.loop-self-test.true in
    let old : end_at c.args.ends.now here ≡ Background = none_before t c.args.ends.now ends here c.loop-self.invariant.gains none in
    let within : leads_within (own_grid t) here s ≡ true = subst (λ u. leads_within (own_grid t) here u ≡ true) (sym s_is) (c.requires.within here old) in
    let leads : LeadsTo (own_grid t) here s next = subst (λ a. LeadsTo a here s next) h.own_is c.far_end-here.ensures.leads in
    let there : next < voxel_count (own_grid t) = subst (λ a. next < voxel_count a) h.own_is c.far_end-here.ensures.voxel in
    let lt : here < length ends = subst (λ n. here < n) (sym (c.loop-self.auto.ends ∙ c.requires.one_each)) at in
    record {
      voxel = there;
      right = end_along t (voxel_of t here) (voxel_of t next) s c.args.end (best_in_cell t own here s h at s_is)
          (leads_in_cell t own here next s h at within leads)
          (box_voxel_in t.grid.axes t.cell.lo t.cell.hi next (cell_place t own next h there)) c.loop-self.invariant.right;
      given = inr (given_known ends c.args.i here c.args.end lt c.requires.known c.loop-self.invariant.given);
      gains = gains_end t c.args.ends.now ends here c.args.end lt c.loop-self.invariant.gains c.loop-self.invariant.right c.requires.known;
    }
