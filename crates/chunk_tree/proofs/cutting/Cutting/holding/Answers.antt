use Rattle.std.proofs.Common.{arith}
use Rattle.chunk_tree.proofs.Walks.{level_end, next_first, level_by_node}
use Rattle.chunk_tree.proofs.cutting.Cutting.holding.Goals as goal

pub overflow_add-level : goal.overflow_add-level
overflow_add-level c =
    omega (arith, level_end c.args.self.now c.loop-level.level c.loop-level.invariant.1 c.loop-level.invariant.0)

pub loop-level-preserved : goal.loop-level-preserved
loop-level-preserved c = (
  c.above-level.ensures.level,
  c.loop-level.invariant.1,
  omega (
    arith,
    next_first c.args.self.now c.loop-level.level c.above-level.result c.loop-level.invariant.0
        c.above-level.ensures.level c.above-level.ensures.number,
  ),
)

pub returns-clause-number : goal.returns-clause-number
returns-clause-number c =
    level_by_node c.args.self.now c.loop-level.level c.args.m c.loop-level.invariant.0 c.loop-level.invariant.2 (omega arith)
