use Rattle.std.proofs.Common.{◌<◌, sym, subst}
use Rattle.agglo_model.specs.Axes.{voxel_count}
use Rattle.agglo_model.specs.Cutting.{Chunking}
use Rattle.chunk_tree.proofs.Walks.{leaf_place_at}
use Rattle.chunk_tree.proofs.cutting.Cutting.leaf_of.Goals as goal

pub voxel-requires : goal.voxel-requires
voxel-requires c =
    leaf_place_at (record { axes = c.self.inside.dims; leaf = c.self.inside.leaf }) c.args.v c.self.invariant.0
    (subst (λ (t : Chunking). c.args.v < voxel_count t.axes) (sym c.self.view_is) c.requires)
    c.self.inside.leaves c.self.invariant.1 c.place.result c.place.ensures.value
    c.nx.result c.ny.result c.nz.result c.nx.ensures.value c.ny.ensures.value c.nz.ensures.value
