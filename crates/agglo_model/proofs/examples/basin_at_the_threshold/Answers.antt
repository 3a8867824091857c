use Rattle.std.proofs.Common.{arith}
use Rattle.agglo_model.proofs.Worked.{one_edge_is, one_edge_is_weak}
use Rattle.agglo_model.proofs.examples.basin_at_the_threshold.Goals as goal

pub returns-clause-weak : goal.returns-clause-weak
returns-clause-weak c = λ edge. omega (arith, edge.strong)

pub returns-clause-basins : goal.returns-clause-basins
returns-clause-basins c = one_edge_is

pub returns-clause-background : goal.returns-clause-background
returns-clause-background c = one_edge_is_weak
