use Rattle.steepest_ascent.specs.Terrain.{Terrain}
use Rattle.steepest_ascent.proofs.Filling.{right_stays, passed_one_more}
use Rattle.steepest_ascent.proofs.ascent.Ascent.settle_all.Goals as goal

pub loop-v-preserved : goal.loop-v-preserved
loop-v-preserved c =
    let t : Terrain = c.args.self.now in
    record {
      right = right_stays t.grid t.low c.loop-v.labels c.settle.new.labels c.loop-v.invariant.right c.settle.ensures.gains;
      passed = passed_one_more t.grid t.low c.loop-v.v c.loop-v.labels c.settle.new.labels
          c.loop-v.invariant.passed c.settle.ensures.gains c.settle.ensures.settled;
    }
