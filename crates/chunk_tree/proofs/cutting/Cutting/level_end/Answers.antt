use Rattle.std.proofs.Common.{◌+◌, ap, ◌∙◌, arith}
use Rattle.agglo_model.specs.Cutting.{first_node}
use Rattle.chunk_tree.proofs.Walks.{level_end, level_end-is}
use Rattle.chunk_tree.proofs.cutting.Cutting.level_end.Goals as goal

pub overflow_add-result : goal.overflow_add-result
overflow_add-result c =
    omega (arith, level_end c.args.self.now c.level-level.result c.level-level.ensures.cutting c.level-level.ensures.level, c.voxels.ensures.value)

pub returns-clause-value : goal.returns-clause-value
returns-clause-value c =
    level_end-is c.args.self.now c.level-level.result c.level-level.ensures.level c.voxels.result c.voxels.ensures.value
    ∙ ap (λ k. first_node c.args.self.now (k + 1)) c.level-level.ensures.number
