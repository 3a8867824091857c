use Rattle.std.proofs.Common.{◌≡◌, suc, sym, ◌∙◌, arith}
use Rattle.agglo_model.specs.Cutting.{level_of}
use Rattle.chunk_tree.proofs.Walks.{has_place, root_by_cells, parent-root, inner_by_test, parent_place, parent-is, above_node, level_end}
use Rattle.chunk_tree.proofs.cutting.Cutting.parent.Goals as goal

pub returns-then-voxels-eq1-clause-value : goal.returns-then-voxels-eq1-clause-value
returns-then-voxels-eq1-clause-value c = parent-root c.args.self.now c.args.m
    (root_by_cells c.args.self.now c.holding-level.result c.args.m c.holding-level.ensures.cutting c.holding-level.ensures.level
    c.holding-level.ensures.number c.requires (sym c.voxels.ensures.value ∙ c.if-voxels-eq1.true))

pub returns-then-voxels-eq1-clause-above : goal.returns-then-voxels-eq1-clause-above
returns-then-voxels-eq1-clause-above c =
    root_by_cells c.args.self.now c.holding-level.result c.args.m c.holding-level.ensures.cutting c.holding-level.ensures.level
    c.holding-level.ensures.number c.requires (sym c.voxels.ensures.value ∙ c.if-voxels-eq1.true)

pub above-next-requires-clause-inner : goal.above-next-requires-clause-inner
above-next-requires-clause-inner c =
    inner_by_test c.args.self.now c.holding-level.result c.holding-level.ensures.cutting c.holding-level.ensures.level
    (λ one. c.if-voxels-eq1.false (c.voxels.ensures.value ∙ one))

pub voxel-requires : goal.voxel-requires
voxel-requires c =
    let has = has_place c.args.self.now c.holding-level.result c.args.m c.holding-level.ensures.level
    c.holding-level.ensures.number c.place.result c.place.ensures.value in
    let number : c.above-next.result.number ≡ suc (level_of c.args.self.now c.args.m) =
    omega (arith, c.above-next.ensures.number, c.holding-level.ensures.number) in
    parent_place c.args.self.now c.args.m c.above-next.result c.holding-level.ensures.cutting c.requires
    c.above-next.ensures.level number c.place.result has

pub overflow_add-result : goal.overflow_add-result
overflow_add-result c = omega (
  arith,
  c.voxel.ensures.voxel,
  level_end c.args.self.now c.above-next.result c.holding-level.ensures.cutting c.above-next.ensures.level,
)

pub returns-clause-value : goal.returns-clause-value
returns-clause-value c =
    let has = has_place c.args.self.now c.holding-level.result c.args.m c.holding-level.ensures.level
    c.holding-level.ensures.number c.place.result c.place.ensures.value in
    let number : c.above-next.result.number ≡ suc (level_of c.args.self.now c.args.m) =
    omega (arith, c.above-next.ensures.number, c.holding-level.ensures.number) in
    parent-is c.args.self.now c.args.m c.above-next.result c.holding-level.ensures.cutting c.above-next.ensures.level
    number c.place.result has c.voxel.result c.voxel.ensures.value

pub returns-clause-above : goal.returns-clause-above
returns-clause-above c =
    let number : c.above-next.result.number ≡ suc (level_of c.args.self.now c.args.m) =
    omega (arith, c.above-next.ensures.number, c.holding-level.ensures.number) in
    above_node c.args.self.now c.args.m c.above-next.result c.voxel.result c.requires c.above-next.ensures.level
    number c.voxel.ensures.voxel
