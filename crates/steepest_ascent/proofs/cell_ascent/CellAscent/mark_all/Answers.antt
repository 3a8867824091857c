use Rattle.steepest_ascent.specs.Charts.{Chart}
use Rattle.steepest_ascent.proofs.CellFilling.{so_far_stays}
use Rattle.steepest_ascent.proofs.CellRows.{row_more}
use Rattle.steepest_ascent.proofs.cell_ascent.CellAscent.mark_all.Goals as goal

pub loop-y-preserved : goal.loop-y-preserved
loop-y-preserved c =
    let t : Chart = c.args.self.now in
    record {
      right = so_far_stays t c.loop-y.ends c.mark_row.new.ends c.loop-y.invariant.right c.mark_row.ensures.gains;
      within = row_more t c.loop-y.ends c.mark_row.new.ends c.loop-y.y c.loop-z.z c.loop-y.invariant.within
          c.mark_row.ensures.gains c.mark_row.ensures.within;
    }
