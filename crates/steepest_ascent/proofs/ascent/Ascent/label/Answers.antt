use Rattle.std.proofs.Common.{◌∙◌, sym}
use Rattle.steepest_ascent.specs.Terrain.{Terrain}
use Rattle.steepest_ascent.proofs.Filling.{label_at_end, label_along, label_there, next_voxel, climb_falls}
use Rattle.steepest_ascent.proofs.ascent.Ascent.label.Goals as goal

pub returns-then-label-ne0 : goal.returns-then-label-ne0
returns-then-label-ne0 c =
    let t : Terrain = c.args.self.now in
    λ basins are. label_there t.grid t.low c.loop-v.here c.args.labels.now c.requires.right c.if-label-ne0.true basins are
    ∙ c.loop-v.invariant.same_label basins are

pub returns-in-Ends : goal.returns-in-Ends
returns-in-Ends c =
    let t : Terrain = c.args.self.now in
    λ basins are. label_at_end t.grid t.low c.loop-v.here c.in-Ends.name c.in-Ends.ensures.turn basins are
    ∙ c.loop-v.invariant.same_label basins are

pub loop-v-smaller : goal.loop-v-smaller
loop-v-smaller c =
    let t : Terrain = c.args.self.now in
    climb_falls t.grid t.low c.loop-v.here c.in-Climbs.next c.in-Climbs.ensures.whole c.in-Climbs.ensures.turn

pub loop-v-preserved : goal.loop-v-preserved
loop-v-preserved c =
    let t : Terrain = c.args.self.now in
    record {
      voxel = next_voxel t.grid t.low c.loop-v.here c.in-Climbs.next c.in-Climbs.ensures.turn;
      same_label = λ basins are.
          sym (label_along t.grid t.low c.loop-v.here c.in-Climbs.next c.in-Climbs.ensures.turn basins are)
          ∙ c.loop-v.invariant.same_label basins are;
    }
