use Rattle.std.proofs.Common.{◌<◌, get_or, sym, subst}
use Rattle.agglo_model.specs.Axes.{voxel_count}
use Rattle.face_pointers.specs.Pieces.{Parts}
use Rattle.face_pointers.proofs.exits.Exits.follow_each.Goals as goal

pub follow-requires : goal.follow-requires
follow-requires c =
    subst (λ (q : Parts). get_or c.args.voxels.now c.loop-v.v-index 0 < voxel_count q.grid.axes) (sym c.loop-v.invariant)
    (c.requires c.loop-v.v-index c.loop-v-test.true)
