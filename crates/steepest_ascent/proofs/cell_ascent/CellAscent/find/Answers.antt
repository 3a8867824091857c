use Rattle.steepest_ascent.specs.CellEnds.{Stays, end_at}
use Rattle.steepest_ascent.specs.Charts.{Chart}
use Rattle.steepest_ascent.specs.declared.cell_ascent.Spot.{Spot}
use Rattle.steepest_ascent.specs.declared.ends.End.TheVariants.{Background}
use Rattle.steepest_ascent.proofs.CellFilling.{climb_end, end_at_spot, end_of_spot, end_there, gains_both, gains_none, told_known}
use Rattle.steepest_ascent.proofs.Filling.{climb_falls}
use Rattle.steepest_ascent.proofs.cell_ascent.CellAscent.find.Goals as goal

pub loop-here-init : goal.loop-here-init
loop-here-init c =
    let t : Chart = c.args.self.now in
    record {
      spot = c.requires.spot;
      same_end = λ end is. end_at_spot t c.args.from end c.requires.spot is;
      right = c.requires.right;
      within = c.requires.within;
      gains = gains_none t c.args.ends.now;
    }

pub returns-then-not-is_background-clause-end : goal.returns-then-not-is_background-clause-end
returns-then-not-is_background-clause-end c =
    let t : Chart = c.args.self.now in
    let here : Spot = c.loop-here.here in
    let end = end_at c.loop-here.ends here.own in
    let there = end_there t here.own c.loop-here.ends c.loop-here.invariant.right
    (told_known c.is_background.result _ c.if-not-is_background.true c.is_background.ensures.1) in
    c.loop-here.invariant.same_end end (end_of_spot t here end c.loop-here.invariant.spot there)

pub turn-requires-clause-within : goal.turn-requires-clause-within
turn-requires-clause-within c =
    c.loop-here.invariant.within c.loop-here.here.own (c.is_background.ensures.0 c.if-not-is_background.false)

pub returns-in-Stays-clause-end : goal.returns-in-Stays-clause-end
returns-in-Stays-clause-end c = c.loop-here.invariant.same_end Background (Stays c.in-Stays.ensures.turn)

pub returns-in-Ends-clause-end : goal.returns-in-Ends-clause-end
returns-in-Ends-clause-end c =
    let t : Chart = c.args.self.now in
    c.loop-here.invariant.same_end c.mark_root.result
    (end_of_spot t c.loop-here.here c.mark_root.result c.loop-here.invariant.spot c.mark_root.ensures.end)

pub returns-in-Ends-clause-gains : goal.returns-in-Ends-clause-gains
returns-in-Ends-clause-gains c = gains_both c.args.self.now c.args.ends.now c.loop-here.ends c.mark_root.new.ends
    c.loop-here.invariant.gains c.mark_root.ensures.gains

pub loop-here-smaller : goal.loop-here-smaller
loop-here-smaller c =
    let t : Chart = c.args.self.now in
    climb_falls t.grid t.low c.loop-here.here.voxel c.in-Climbs.next.voxel c.in-Climbs.ensures.whole
    c.in-Climbs.ensures.turn.climbs

pub loop-here-preserved : goal.loop-here-preserved
loop-here-preserved c =
    let t : Chart = c.args.self.now in
    record {
      spot = c.in-Climbs.ensures.turn.next_spot;
      same_end = λ end is. c.loop-here.invariant.same_end end
          (climb_end t c.loop-here.here c.in-Climbs.next end c.in-Climbs.ensures.turn is);
      right = c.loop-here.invariant.right;
      within = c.loop-here.invariant.within;
      gains = c.loop-here.invariant.gains;
    }
