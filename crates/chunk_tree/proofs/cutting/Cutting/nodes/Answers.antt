use Rattle.std.proofs.Common.{arith}
use Rattle.agglo_model.proofs.Levels.{node_count-lt}
use Rattle.chunk_tree.proofs.Walks.{nodes_by_last}
use Rattle.chunk_tree.proofs.cutting.Cutting.nodes.Goals as goal

pub overflow_add-result : goal.overflow_add-result
overflow_add-result c = omega (
  arith,
  node_count-lt c.args.self.now c.last.ensures.cutting,
  nodes_by_last c.args.self.now c.last.result c.last.ensures.cutting c.last.ensures.level c.last.ensures.number,
)

pub returns-clause-value : goal.returns-clause-value
returns-clause-value c =
    nodes_by_last c.args.self.now c.last.result c.last.ensures.cutting c.last.ensures.level c.last.ensures.number

pub returns-clause-few : goal.returns-clause-few
returns-clause-few c = omega (
  arith,
  node_count-lt c.args.self.now c.last.ensures.cutting,
  nodes_by_last c.args.self.now c.last.result c.last.ensures.cutting c.last.ensures.level c.last.ensures.number,
)
