use Rattle.std.proofs.Common.{ap, arith}
use Rattle.agglo_model.specs.Axes.{voxel_count}
use Rattle.chunk_tree.proofs.Walks.{most_children}
use Rattle.chunk_tree.proofs.cutting.Cutting.child_count.Goals as goal

pub returns-in-Some-clause-most : goal.returns-in-Some-clause-most
returns-in-Some-clause-most c = omega (
  arith,
  c.voxels.ensures.value,
  ap voxel_count c.in-Some.ensures.value.grid,
  most_children c.args.self.now c.args.m,
)
