use Rattle.std.proofs.Common.{◌≤◌, ◌^◌, get_or, ◌∙◌, ap, arith}
use Rattle.agglo_model.specs.Axes.{IsPlace}
use Rattle.agglo_model.specs.Cutting.{Chunking, level_grid, level_of}
use Rattle.chunk_tree.proofs.Walks.{has_place, place_on_level, scale_le, length_fits, begins_before_end}
use Rattle.chunk_tree.proofs.cutting.Cutting.cell.Goals as goal
use Rattle.chunk_tree.proofs.cutting.Cutting.cell.Goals.{After-holding-level, After-place}

small_scale : (c : After-holding-level) → 2 ^ c.holding-level.result.number ≤ 65536
small_scale c = scale_le c.args.self.now c.holding-level.result.number c.holding-level.ensures.cutting c.holding-level.ensures.level.reached

pub pow-scale-requires : goal.pow-scale-requires
pow-scale-requires c = omega (arith, small_scale (goal.at.pow-scale-requires c).After-holding-level)

pub overflow_mul-nx : goal.overflow_mul-nx
overflow_mul-nx c =
    let scale = small_scale (goal.at.overflow_mul-nx c).After-holding-level in
    length_fits c.nx.result c.pow-scale.result (omega (arith, c.nx.ensures.limits.most_x)) (omega arith)

pub overflow_mul-ny : goal.overflow_mul-ny
overflow_mul-ny c =
    let scale = small_scale (goal.at.overflow_mul-ny c).After-holding-level in
    length_fits c.ny.result c.pow-scale.result (omega (arith, c.ny.ensures.limits.most_y)) (omega arith)

pub overflow_mul-nz : goal.overflow_mul-nz
overflow_mul-nz c =
    let scale = small_scale (goal.at.overflow_mul-nz c).After-holding-level in
    length_fits c.nz.result c.pow-scale.result (omega (arith, c.nz.ensures.limits.most_z)) (omega arith)

-- the place of the node in the grid of its level
own_place : (c : After-place) → IsPlace (level_grid c.args.self.now (level_of c.args.self.now c.args.m))
    (get_or c.place.result 0 0) (get_or c.place.result 1 0) (get_or c.place.result 2 0)
own_place c = place_on_level c.args.self.now c.args.m c.holding-level.ensures.cutting c.requires c.place.result
    (has_place c.args.self.now c.holding-level.result c.args.m c.holding-level.ensures.level
    c.holding-level.ensures.number c.place.result c.place.ensures.value)

pub span-low_x-requires : goal.span-low_x-requires
span-low_x-requires c =
    let own = own_place (goal.at.span-low_x-requires c).After-place in
    begins_before_end c.args.self.now c.args.m 0 c.holding-level.ensures.cutting
    c.holding-level.result.number _ c.nx.result c.pow-scale.result c.nx-2.result
    c.holding-level.ensures.number own.in_x
    (c.nx.ensures.value ∙ ap (λ (t : Chunking). t.leaf.nx) c.self.view_is) c.pow-scale.ensures
    (c.nx-2.ensures.value ∙ ap (λ (t : Chunking). t.axes.nx) c.self.view_is)

pub span-low_y-requires : goal.span-low_y-requires
span-low_y-requires c =
    let own = own_place (goal.at.span-low_y-requires c).After-place in
    begins_before_end c.args.self.now c.args.m 1 c.holding-level.ensures.cutting
    c.holding-level.result.number _ c.ny.result c.pow-scale.result c.ny-2.result
    c.holding-level.ensures.number own.in_y
    (c.ny.ensures.value ∙ ap (λ (t : Chunking). t.leaf.ny) c.self.view_is) c.pow-scale.ensures
    (c.ny-2.ensures.value ∙ ap (λ (t : Chunking). t.axes.ny) c.self.view_is)

pub span-low_z-requires : goal.span-low_z-requires
span-low_z-requires c =
    let own = own_place (goal.at.span-low_z-requires c).After-place in
    begins_before_end c.args.self.now c.args.m 2 c.holding-level.ensures.cutting
    c.holding-level.result.number _ c.nz.result c.pow-scale.result c.nz-2.result
    c.holding-level.ensures.number own.in_z
    (c.nz.ensures.value ∙ ap (λ (t : Chunking). t.leaf.nz) c.self.view_is) c.pow-scale.ensures
    (c.nz-2.ensures.value ∙ ap (λ (t : Chunking). t.axes.nz) c.self.view_is)
