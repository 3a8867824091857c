use Rattle.std.proofs.Common.{◌≡◌, ◌∙◌, ◌<◌, length, sym, subst, length-set}
use Rattle.agglo_model.specs.Axes.{voxel_count}
use Rattle.steepest_ascent.specs.Terrain.{Terrain}
use Rattle.steepest_ascent.proofs.Filling.{label_on, next_voxel, climb_falls, given_stays, gains_more}
use Rattle.steepest_ascent.proofs.ascent.Ascent.give.Goals as goal

pub loop-next-smaller : goal.loop-next-smaller
loop-next-smaller c =
    let t : Terrain = c.args.self.now in
    climb_falls t.grid t.low c.loop-next.here c.in-Climbs.next c.in-Climbs.ensures.whole c.in-Climbs.ensures.turn

pub loop-next-preserved : goal.loop-next-preserved
loop-next-preserved c =
    let t : Terrain = c.args.self.now in
    let w = c.in-Climbs.next in
    let voxel = next_voxel t.grid t.low c.loop-next.here w c.in-Climbs.ensures.turn in
    let len : length c.loop-next.labels ≡ voxel_count t.grid.axes =
    c.loop-next.auto.labels ∙ length-set c.args.labels.now c.args.v c.args.label ∙ c.requires.one_each in
    let within : w < length c.loop-next.labels = subst (λ n. w < n) (sym len) voxel in
    let right = label_on t.grid t.low c.loop-next.here w c.args.label c.in-Climbs.ensures.turn c.loop-next.invariant.right in
    record {
      voxel = voxel;
      right = right;
      given = given_stays c.loop-next.labels c.args.v w c.args.label within c.loop-next.invariant.given;
      gains = gains_more t.grid t.low c.args.labels.now c.loop-next.labels w c.args.label within c.loop-next.invariant.gains right;
    }
