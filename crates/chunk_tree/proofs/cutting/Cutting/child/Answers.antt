use Rattle.std.proofs.Common.{arith}
use Rattle.chunk_tree.proofs.Walks.{below_node, level_end}
use Rattle.chunk_tree.proofs.cutting.Cutting.child.Goals as goal

pub overflow_add-result : goal.overflow_add-result
overflow_add-result c = omega (
  arith,
  c.voxel.ensures.voxel,
  level_end c.args.self.now c.in-Some.children.level c.in-Some.ensures.cutting c.in-Some.ensures.value.level,
)

pub returns-clause-below : goal.returns-clause-below
returns-clause-below c =
    below_node c.args.self.now c.args.m c.in-Some.children.level c.voxel.result c.in-Some.ensures.value.level c.requires.node
    c.in-Some.ensures.value.below c.voxel.ensures.voxel
