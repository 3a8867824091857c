use Rattle.std.proofs.Common.{◌∙◌, ap, arith}
use Rattle.std.specs.Int.{div_ceil}
use Rattle.agglo_model.proofs.Levels.{last_level_le}
use Rattle.chunk_tree.proofs.Walks.{level_end, next_level}
use Rattle.chunk_tree.proofs.cutting.Cutting.above.Goals as goal

pub overflow_add-result : goal.overflow_add-result
overflow_add-result c = omega (arith, last_level_le c.args.self.now c.requires.cutting)

pub overflow_add-result-2 : goal.overflow_add-result-2
overflow_add-result-2 c = omega (arith, level_end c.args.self.now c.args.level.now c.requires.cutting c.requires.level, c.voxels.ensures.value)

pub returns-clause-level : goal.returns-clause-level
returns-clause-level c = next_level c.args.self.now c.args.level.now c.requires.cutting c.requires.level c.requires.inner
    c.voxels.result c.div_ceil-nx.result c.div_ceil-ny.result c.div_ceil-nz.result c.voxels.ensures.value
    (c.div_ceil-nx.ensures ∙ ap (λ n. div_ceil n 2) c.nx.ensures.value)
    (c.div_ceil-ny.ensures ∙ ap (λ n. div_ceil n 2) c.ny.ensures.value)
    (c.div_ceil-nz.ensures ∙ ap (λ n. div_ceil n 2) c.nz.ensures.value)
    c.grid_of.result c.grid_of.ensures
