use Rattle.std.proofs.Common.{◌≡◌, ◌<◌, get_or, sym, ◌∙◌, subst, arith}
use Rattle.agglo_model.specs.Axes.{voxel_count}
use Rattle.agglo_model.specs.Cutting.{high_corner, child}
use Rattle.region_graph.specs.Boxes.{IsBox, in_box}
use Rattle.parent_join.proofs.AxesAcross.{AreAxesCrossed, axes-none, axes-more, axes-contacts, axes-ordered}
use Rattle.parent_join.proofs.ChildEnds.{AreCells, cells_are, ends_within, plane_box, plane_inner, plane_in, few_axes}
use Rattle.parent_join.proofs.across.gather_across.Goals as goal
use Rattle.parent_join.proofs.across.gather_across.Goals.{After-cell-first}

pub loop-axis-init : goal.loop-axis-init
loop-axis-init c =
    let s = c.args.site.now in
    subst (AreAxesCrossed s.grid s.labels c.cell-cell.result.lo c.cell-cell.result.hi c.cell-first.result.hi 0)
    (sym c.new-edges.ensures.items)
    (axes-none s.grid s.labels c.cell-cell.result.lo c.cell-cell.result.hi c.cell-first.result.hi)

-- the corners of the node's cell and of its first child's
cells_at : (c : After-cell-first) → AreCells c.args.site.now.cutting c.args.m c.cell-cell.result.lo c.cell-cell.result.hi c.cell-first.result.hi
cells_at c = cells_are c.cutting-cutting.result.now c.args.site.now.cutting c.args.m c.child.result c.cell-cell.result.lo c.cell-cell.result.hi
    c.cell-first.result.hi c.cutting-cutting.ensures.value c.cell-cell.ensures.low c.cell-cell.ensures.high c.child.ensures.value c.cell-first.ensures.high

pub layer_at-layer-requires-clause-fits : goal.layer_at-layer-requires-clause-fits
layer_at-layer-requires-clause-fits c =
    let s = c.args.site.now in
    let site = c.cutting-cutting.ensures.site in
    let cell = c.cell-cell.result in
    let first = c.cell-first.result in
    let cells = cells_at (goal.at.layer_at-layer-requires-clause-fits c).After-cell-first in
    ends_within s.cutting site.chunking c.args.m c.requires.node c.requires.parent s.grid.axes site.same_axes
    cell.lo cell.hi first.hi cells c.loop-axis.axis c.loop-axis-test.true

pub add_contacts-requires-clause-cell_fits : goal.add_contacts-requires-clause-cell_fits
add_contacts-requires-clause-cell_fits c =
    let s = c.args.site.now in
    let site = c.cutting-cutting.ensures.site in
    let cell = c.cell-cell.result in
    let first = c.cell-first.result in
    let cells = cells_at (goal.at.add_contacts-requires-clause-cell_fits c).After-cell-first in
    let box = plane_box s.cutting site.chunking c.args.m c.requires.node c.requires.parent s.grid.axes site.same_axes
    cell.lo cell.hi first.hi cells c.loop-axis.axis c.loop-axis-test.true in
    subst (λ ls. IsBox s.grid.axes ls c.layer_at-layer.result.hi) (sym c.layer_at-layer.ensures.low)
    (subst (IsBox s.grid.axes _) (sym c.layer_at-layer.ensures.high) box)

pub add_contacts-requires-clause-inner : goal.add_contacts-requires-clause-inner
add_contacts-requires-clause-inner c =
    let s = c.args.site.now in
    let site = c.cutting-cutting.ensures.site in
    let cell = c.cell-cell.result in
    let first = c.cell-first.result in
    let cells = cells_at (goal.at.add_contacts-requires-clause-inner c).After-cell-first in
    subst (λ ls. 0 < get_or ls c.loop-axis.axis 0) (sym c.layer_at-layer.ensures.low)
    (plane_inner s.cutting site.chunking c.args.m c.requires.node c.requires.parent s.grid.axes site.same_axes
    cell.lo cell.hi first.hi cells c.loop-axis.axis c.loop-axis-test.true)

pub add_contacts-requires-clause-room : goal.add_contacts-requires-clause-room
add_contacts-requires-clause-room c =
    few_axes c.loop-axis.axis (voxel_count c.args.site.now.grid.axes) _ c.loop-axis-test.true
    c.cutting-cutting.ensures.site.whole.limits.most_voxels c.loop-axis.invariant.count

pub loop-axis-preserved : goal.loop-axis-preserved
loop-axis-preserved c =
    let s = c.args.site.now in
    let site = c.cutting-cutting.ensures.site in
    let cell = c.cell-cell.result in
    let first = c.cell-first.result in
    let layer = c.layer_at-layer.result in
    let axis = c.loop-axis.axis in
    let cells = cells_at (goal.at.loop-axis-preserved c).After-cell-first in
    axes-more s.grid s.labels cell.lo cell.hi first.hi layer.lo layer.hi axis c.loop-axis.edges.items c.add_contacts.new.edges.items
    c.loop-axis.invariant
    (λ v. (λ i. in_box s.grid.axes (c.layer_at-layer.ensures.low i) (c.layer_at-layer.ensures.high i) v)
    ∙ plane_in s.cutting site.chunking c.args.m c.requires.node c.requires.parent s.grid.axes site.same_axes
    cell.lo cell.hi first.hi cells axis c.loop-axis-test.true v)
    c.in_ok-add_contacts.ensures.gains c.in_ok-add_contacts.ensures.count

pub returns-clause-contacts : goal.returns-clause-contacts
returns-clause-contacts c =
    let s = c.args.site.now in
    let site = c.cutting-cutting.ensures.site in
    let cell = c.cell-cell.result in
    let first = c.cell-first.result in
    let cells = cells_at (goal.at.returns-clause-contacts c).After-cell-first in
    let end : c.loop-axis.axis ≡ 3 = omega arith in
    axes-contacts s.grid s.labels s.cutting c.args.m c.loop-axis.edges.items site.chunking site.same_axes c.requires.node c.requires.parent
    (subst (λ ls. AreAxesCrossed s.grid s.labels ls (high_corner s.cutting c.args.m) (high_corner s.cutting (child s.cutting c.args.m 0)) 3 c.loop-axis.edges.items)
    cells.corners.low
    (subst (λ hs. AreAxesCrossed s.grid s.labels cell.lo hs (high_corner s.cutting (child s.cutting c.args.m 0)) 3 c.loop-axis.edges.items)
    cells.corners.high
    (subst (λ ps. AreAxesCrossed s.grid s.labels cell.lo cell.hi ps 3 c.loop-axis.edges.items) cells.planes_are
    (subst (λ k. AreAxesCrossed s.grid s.labels cell.lo cell.hi first.hi k c.loop-axis.edges.items) end c.loop-axis.invariant))))

pub returns-clause-ordered : goal.returns-clause-ordered
returns-clause-ordered c =
    let s = c.args.site.now in
    axes-ordered s.grid s.labels c.cell-cell.result.lo c.cell-cell.result.hi c.cell-first.result.hi c.loop-axis.axis
    c.loop-axis.edges.items c.loop-axis.invariant

pub returns-clause-count : goal.returns-clause-count
returns-clause-count c =
    let s = c.args.site.now in
    let end : c.loop-axis.axis ≡ 3 = omega arith in
    let few = subst (λ k. AreAxesCrossed s.grid s.labels c.cell-cell.result.lo c.cell-cell.result.hi c.cell-first.result.hi k c.loop-axis.edges.items)
    end c.loop-axis.invariant in
    omega (arith, few.count, c.cutting-cutting.ensures.site.whole.limits.most_voxels)
