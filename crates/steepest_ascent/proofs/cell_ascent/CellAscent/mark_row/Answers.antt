use Rattle.std.proofs.Common.{◌≡◌, ◌-◌, ◌+◌, ◌<◌, ap, ◌∙◌, subst}
use Rattle.agglo_model.specs.Axes.{Axes, voxel_at}
use Rattle.steepest_ascent.specs.Charts.{Chart, IsCharted, StaysWithin, own_grid}
use Rattle.steepest_ascent.proofs.CellFilling.{gains_both}
use Rattle.steepest_ascent.proofs.CellRows.{inner_row, place_more}
use Rattle.steepest_ascent.proofs.cell_ascent.CellAscent.mark_row.Goals as goal

pub returns-then-z-nz-clause-within : goal.returns-then-z-nz-clause-within
returns-then-z-nz-clause-within c =
    let t : Chart = c.args.self.now in
    let own : Axes = c.self.inside.grid in
    let h : IsCharted t own = subst (λ u. IsCharted u own) c.self.view_is c.self.invariant in
    let width : c.nx-width.result ≡ (own_grid t).nx = c.nx-width.ensures.value ∙ ap (λ (a : Axes). a.nx) h.own_is in
    let last = subst (λ n. StaysWithin t c.mark-then-z-nz.new.ends (voxel_at (own_grid t) (n - 1) c.args.y c.args.z)) width c.mark-then-z-nz.ensures.within in
    let ny : c.ny.result ≡ (own_grid t).ny = c.ny.ensures.value ∙ ap (λ (a : Axes). a.ny) h.own_is in
    let nz : c.nz.result ≡ (own_grid t).nz = c.nz.ensures.value ∙ ap (λ (a : Axes). a.nz) h.own_is in
    inner_row t c.mark.new.ends c.mark-then-z-nz.new.ends c.args.y c.args.z c.if-y-gt0.true
    (subst (λ n. c.args.y + 1 < n) ny c.if-y-ny.true) c.if-z-gt0.true (subst (λ n. c.args.z + 1 < n) nz c.if-z-nz.true)
    c.mark.ensures.within c.mark-then-z-nz.ensures.gains last

pub loop-x-preserved : goal.loop-x-preserved
loop-x-preserved c =
    let t : Chart = c.args.self.now in
    record {
      gains = gains_both t c.args.ends.now c.loop-x.ends c.mark-in-loop-x.new.ends c.loop-x.invariant.gains c.mark-in-loop-x.ensures.gains;
      within = place_more t c.loop-x.ends c.mark-in-loop-x.new.ends c.loop-x.x c.args.y c.args.z c.loop-x.invariant.within
          c.mark-in-loop-x.ensures.gains c.mark-in-loop-x.ensures.within;
    }
