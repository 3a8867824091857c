use Rattle.steepest_ascent.specs.Charts.{Chart}
use Rattle.steepest_ascent.proofs.CellFilling.{so_far_stays, within_stays}
use Rattle.steepest_ascent.proofs.CellRows.{ends_more}
use Rattle.steepest_ascent.proofs.cell_ascent.CellAscent.settle_all.Goals as goal

pub loop-y-preserved : goal.loop-y-preserved
loop-y-preserved c =
    let t : Chart = c.args.self.now in
    let before = c.loop-y.ends in
    let after = c.settle_row.new.ends in
    let gains = c.settle_row.ensures.gains in
    record {
      right = so_far_stays t before after c.loop-y.invariant.right gains;
      within = λ k. within_stays t before after k gains (c.loop-y.invariant.within k);
      done = ends_more t before after c.loop-y.y c.loop-z.z c.loop-y.invariant.done gains c.settle_row.ensures.settled;
    }
