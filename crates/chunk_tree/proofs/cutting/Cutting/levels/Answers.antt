use Rattle.std.proofs.Common.{arith}
use Rattle.agglo_model.proofs.Levels.{last_level_le}
use Rattle.chunk_tree.proofs.cutting.Cutting.levels.Goals as goal

pub overflow_add-result : goal.overflow_add-result
overflow_add-result c = omega (arith, last_level_le c.args.self.now c.last.ensures.cutting)

pub returns-clause-most : goal.returns-clause-most
returns-clause-most c = omega (arith, last_level_le c.args.self.now c.last.ensures.cutting)
