use Rattle.std.proofs.Common.{◌≡◌, suc, ◌*◌, get_or, arith}
use Rattle.agglo_model.specs.Axes.{IsPlace}
use Rattle.agglo_model.specs.Cutting.{level_of}
use Rattle.chunk_tree.proofs.Walks.{has_place, children_begin, small_limits}
use Rattle.chunk_tree.proofs.cutting.Cutting.children.Goals as goal
use Rattle.chunk_tree.proofs.cutting.Cutting.children.Goals.{After-level-level}

-- the place of the first child is within the level below
first_place : (c : After-level-level) → IsPlace c.level-level.result.grid
    (2 * get_or c.place.result 0 0) (2 * get_or c.place.result 1 0) (2 * get_or c.place.result 2 0)
first_place c =
    let has = has_place c.args.self.now c.holding-own.result c.args.m c.holding-own.ensures.level
    c.holding-own.ensures.number c.place.result c.place.ensures.value in
    let next : suc c.level-level.result.number ≡ level_of c.args.self.now c.args.m =
    omega (arith, c.holding-own.ensures.number, c.level-level.ensures.number, c.if-own-eq0.false) in
    children_begin c.args.self.now c.args.m c.level-level.result c.holding-own.ensures.cutting c.requires
    c.level-level.ensures.level next c.place.result has

pub overflow_sub-nx : goal.overflow_sub-nx
overflow_sub-nx c =
    let begin = first_place (goal.at.overflow_sub-nx c).After-level-level in
    omega (arith, begin.in_x, c.nx.ensures.value)

pub overflow_sub-ny : goal.overflow_sub-ny
overflow_sub-ny c =
    let begin = first_place (goal.at.overflow_sub-ny c).After-level-level in
    omega (arith, begin.in_y, c.ny.ensures.value)

pub overflow_sub-nz : goal.overflow_sub-nz
overflow_sub-nz c =
    let begin = first_place (goal.at.overflow_sub-nz c).After-level-level in
    omega (arith, begin.in_z, c.nz.ensures.value)

pub grid_of-grid-requires : goal.grid_of-grid-requires
grid_of-grid-requires c =
    let begin = first_place (goal.at.grid_of-grid-requires c).After-level-level in
    small_limits c.min.result c.min-2.result c.min-3.result
    (omega (arith, begin.in_x, c.nx.ensures.value, c.min.ensures))
    (omega (arith, begin.in_y, c.ny.ensures.value, c.min-2.ensures))
    (omega (arith, begin.in_z, c.nz.ensures.value, c.min-3.ensures))
    (omega (arith, c.min.ensures)) (omega (arith, c.min-2.ensures)) (omega (arith, c.min-3.ensures))
