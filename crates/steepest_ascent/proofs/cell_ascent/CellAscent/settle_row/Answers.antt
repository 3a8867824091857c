use Rattle.std.proofs.Common.{◌≡◌, ◌+◌, ◌<◌, ◌∙◌, get_or, ap, subst}
use Rattle.agglo_model.specs.Axes.{Axes, IsPlace, voxel_at}
use Rattle.steepest_ascent.specs.Charts.{Chart, IsCharted, IsEndAt, own_grid}
use Rattle.steepest_ascent.specs.CellEnds.{end_at}
use Rattle.steepest_ascent.proofs.CellTurning.{in_row, row_spot}
use Rattle.steepest_ascent.proofs.CellFilling.{gains_both, so_far_stays, within_stays}
use Rattle.steepest_ascent.proofs.CellRows.{end_more}
use Rattle.steepest_ascent.proofs.cell_ascent.CellAscent.settle_row.Goals as goal

pub settle-requires-clause-spot : goal.settle-requires-clause-spot
settle-requires-clause-spot c =
    let t : Chart = c.args.self.now in
    let own : Axes = c.self.inside.grid in
    let h : IsCharted t own = subst (λ u. IsCharted u own) c.self.view_is c.self.invariant in
    let width : c.nx-x-end.result ≡ (own_grid t).nx = c.nx-x-end.ensures.value ∙ ap (λ (a : Axes). a.nx) h.own_is in
    let place : IsPlace (own_grid t) c.loop-x.x c.args.y c.args.z =
    record { in_x = subst (λ n. c.loop-x.x < n) width c.loop-x-test.true; in_y = c.requires.in_y; in_z = c.requires.in_z } in
    row_spot t c.loop-x.x c.args.y c.args.z c.voxel-own.result c.voxel-voxel.result place
    (c.voxel-own.ensures.value ∙ ap (λ a. voxel_at a 0 c.args.y c.args.z) h.own_is)
    (c.voxel-voxel.ensures.value
    ∙ ap (λ a. voxel_at a (get_or c.self.inside.cell.lo 0 0) (get_or c.self.inside.cell.lo 1 0 + c.args.y) (get_or c.self.inside.cell.lo 2 0 + c.args.z)) c.dims.ensures.value
    ∙ ap (λ (u : Chart). voxel_at u.grid.axes (get_or u.cell.lo 0 0) (get_or u.cell.lo 1 0 + c.args.y) (get_or u.cell.lo 2 0 + c.args.z)) c.self.view_is)

pub loop-x-preserved : goal.loop-x-preserved
loop-x-preserved c =
    let t : Chart = c.args.self.now in
    let own : Axes = c.self.inside.grid in
    let h : IsCharted t own = subst (λ u. IsCharted u own) c.self.view_is c.self.invariant in
    let before = c.loop-x.ends in
    let after = c.settle.new.ends in
    let gains = c.settle.ensures.gains in
    let here : c.voxel-own.result + c.loop-x.x ≡ voxel_at (own_grid t) c.loop-x.x c.args.y c.args.z =
    ap (λ i. i + c.loop-x.x) (c.voxel-own.ensures.value ∙ ap (λ a. voxel_at a 0 c.args.y c.args.z) h.own_is)
    ∙ in_row (own_grid t) c.loop-x.x c.args.y c.args.z in
    record {
      right = so_far_stays t before after c.loop-x.invariant.right gains;
      within = λ k. within_stays t before after k gains (c.loop-x.invariant.within k);
      gains = gains_both t c.args.ends.now before after c.loop-x.invariant.gains gains;
      done = end_more t before after c.loop-x.x c.args.y c.args.z c.loop-x.invariant.done gains
          (subst (λ i. IsEndAt t i (end_at after i)) here c.settle.ensures.settled);
    }
