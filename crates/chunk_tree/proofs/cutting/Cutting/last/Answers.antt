use Rattle.std.proofs.Common.{arith}
use Rattle.chunk_tree.proofs.Walks.{inner_by_cells, last_by_cells}
use Rattle.chunk_tree.proofs.cutting.Cutting.last.Goals as goal

pub above-level-requires-clause-inner : goal.above-level-requires-clause-inner
above-level-requires-clause-inner c =
    inner_by_cells c.args.self.now c.loop-level.level c.loop-level.invariant.1 c.loop-level.invariant.0 (omega arith)

pub returns-clause-number : goal.returns-clause-number
returns-clause-number c =
    last_by_cells c.args.self.now c.loop-level.level c.loop-level.invariant.1 c.loop-level.invariant.0 (omega arith)
