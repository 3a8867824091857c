use Rattle.std.proofs.Common.{◌≡◌, ◌+◌, ◌-◌, ◌<◌, ◌≤◌, get_or, ap, ◌∙◌, subst, arith}
use Rattle.agglo_model.specs.Axes.{voxel_at}
use Rattle.agglo_model.specs.PairOrder.{most_edges}
use Rattle.region_graph.specs.Boxes.{GainsContacts, ends_among, in_run}
use Rattle.region_graph.specs.Lists.{count_of}
use Rattle.region_graph.proofs.BoxRows.{AreRowsSummed, IsRow, row_inner, rows-none, rows-first, rows-more, rows-layer, rows-room, rows-gained, rows-count}
use Rattle.region_graph.proofs.contacts.gather.Goals as goal
use Rattle.region_graph.proofs.contacts.gather.Goals.{After-voxel-row}

pub loop-z-init : goal.loop-z-init
loop-z-init c =
    let cell = c.args.cell.now in
    rows-none c.args.site.now.grid c.args.site.now.labels c.args.axis cell.lo cell.hi c.args.edges.now.items

pub loop-y-init : goal.loop-y-init
loop-y-init c =
    let cell = c.args.cell.now in
    rows-first c.args.site.now.grid c.args.site.now.labels c.args.axis cell.lo cell.hi c.loop-z.z
    c.args.edges.now.items c.loop-z.edges.items c.loop-z.invariant

row_at : (c : After-voxel-row) → IsRow c.args.cell.now.lo c.args.cell.now.hi c.loop-y.y c.loop-z.z
row_at c = record {
  y_low = c.loop-y.auto.y;
  y_high = c.loop-y-test.true;
  z_low = c.loop-z.auto.z;
  z_high = c.loop-z-test.true;
}

first_is : (c : After-voxel-row) → c.voxel-row.result ≡ voxel_at c.args.site.now.grid.axes 0 c.loop-y.y c.loop-z.z
first_is c =
    c.voxel-row.ensures.value
    ∙ ap (λ b. voxel_at b 0 c.loop-y.y c.loop-z.z) (c.dims-dims.ensures.value ∙ ap (λ g. g.axes) c.vol.ensures.value)

pub add_row-requires-clause-inner : goal.add_row-requires-clause-inner
add_row-requires-clause-inner c v from to =
    let cell = c.args.cell.now in
    let at = (goal.at.add_row-requires-clause-inner c).After-voxel-row in
    row_inner c.args.site.now.grid.axes cell.lo cell.hi c.loop-y.y c.loop-z.z c.args.axis v c.requires.cell_fits (row_at at)
    c.requires.axis c.requires.inner
    (subst (λ n. n + get_or cell.lo 0 0 ≤ v) (first_is at) from) (subst (λ n. v < n + get_or cell.hi 0 0) (first_is at) to)

pub add_row-requires-clause-room : goal.add_row-requires-clause-room
add_row-requires-clause-room c =
    let cell = c.args.cell.now in
    rows-room c.args.site.now.grid c.args.site.now.labels c.args.axis cell.lo cell.hi c.loop-y.y c.loop-z.z c.voxel-row.result most_edges
    c.args.edges.now.items c.loop-y.edges.items (row_at (goal.at.add_row-requires-clause-room c).After-voxel-row) c.loop-y.invariant c.requires.room

pub loop-y-preserved : goal.loop-y-preserved
loop-y-preserved c =
    let g = c.args.site.now.grid in
    let labels = c.args.site.now.labels in
    let cell = c.args.cell.now in
    let at = (goal.at.loop-y-preserved c).After-voxel-row in
    let first = first_is at in
    rows-more g labels c.args.axis cell.lo cell.hi c.loop-y.y c.loop-z.z c.args.edges.now.items c.loop-y.edges.items c.add_row.new.edges.items
    c.requires.cell_fits (row_at at) c.loop-y.invariant
    (subst (λ n. GainsContacts g labels (ends_among c.args.axis (in_run (n + get_or cell.lo 0 0) (n + get_or cell.hi 0 0)))
    c.loop-y.edges.items c.add_row.new.edges.items) first c.in_ok-add_row.ensures.gains)
    (subst (λ n. count_of c.add_row.new.edges.items ≤ count_of c.loop-y.edges.items + ((n + get_or cell.hi 0 0) - (n + get_or cell.lo 0 0)))
    first c.in_ok-add_row.ensures.count)

pub loop-z-preserved : goal.loop-z-preserved
loop-z-preserved c =
    let g = c.args.site.now.grid in
    let labels = c.args.site.now.labels in
    let cell = c.args.cell.now in
    let end : c.loop-y.y ≡ get_or cell.hi 1 0 = omega (arith, c.requires.cell_fits.from_y) in
    rows-layer g labels c.args.axis cell.lo cell.hi c.loop-z.z c.args.edges.now.items c.loop-y.edges.items c.loop-z.auto.z
    (subst (λ y. AreRowsSummed g labels c.args.axis cell.lo cell.hi y c.loop-z.z c.args.edges.now.items c.loop-y.edges.items)
    end c.loop-y.invariant)

-- after the last layer
all_rows : (c : goal.After-loop-z) → AreRowsSummed c.args.site.now.grid c.args.site.now.labels c.args.axis
    c.args.cell.now.lo c.args.cell.now.hi 0 (get_or c.args.cell.now.hi 2 0) c.args.edges.now.items c.loop-z.edges.items
all_rows c =
    let cell = c.args.cell.now in
    let end : c.loop-z.z ≡ get_or cell.hi 2 0 = omega (arith, c.requires.cell_fits.from_z) in
    subst (λ z. AreRowsSummed c.args.site.now.grid c.args.site.now.labels c.args.axis cell.lo cell.hi 0 z
    c.args.edges.now.items c.loop-z.edges.items) end c.loop-z.invariant

pub returns-clause-gains : goal.returns-clause-gains
returns-clause-gains c =
    rows-gained c.args.site.now.grid c.args.site.now.labels c.args.axis c.args.cell.now.lo c.args.cell.now.hi
    c.args.edges.now.items c.loop-z.edges.items (all_rows c)

pub returns-clause-count : goal.returns-clause-count
returns-clause-count c =
    rows-count c.args.site.now.grid c.args.site.now.labels c.args.axis c.args.cell.now.lo c.args.cell.now.hi
    c.args.edges.now.items c.loop-z.edges.items (all_rows c)
