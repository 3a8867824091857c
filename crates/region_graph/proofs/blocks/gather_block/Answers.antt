use Rattle.std.proofs.Common.{◌≡◌, ◌≤◌, ◌<◌, ◌+◌, get_or, sym, subst, arith}
use Rattle.agglo_model.specs.PairOrder.{most_edges}
use Rattle.region_graph.specs.Boxes.{GainsContacts, IsBox, ends_among, in_box, volume_of}
use Rattle.region_graph.specs.Lists.{count_of}
use Rattle.region_graph.proofs.Halves.{raised_box, raised_inner, raised_volume, outer_below}
use Rattle.region_graph.proofs.AxisContacts.{AreAxesSummed, axes-none, axes-more, axes-room, axes-all}
use Rattle.region_graph.proofs.blocks.gather_block.Goals as goal

pub loop-axis-init : goal.loop-axis-init
loop-axis-init c =
    let block = c.args.block.now in
    axes-none c.args.site.now.grid c.args.site.now.labels c.args.outer.now.lo block.lo block.hi c.args.edges.now.items

pub raised-requires-clause-below : goal.raised-requires-clause-below
raised-requires-clause-below c =
    let block = c.args.block.now in
    outer_below c.args.site.now.grid.axes c.args.outer.now.lo block.lo block.hi c.loop-axis.axis c.loop-axis-test.true c.requires.part

pub gather-requires-clause-cell_fits : goal.gather-requires-clause-cell_fits
gather-requires-clause-cell_fits c =
    let block = c.args.block.now in
    subst (λ z. IsBox c.args.site.now.grid.axes z.lo z.hi) (sym c.raised.ensures)
    (raised_box c.args.site.now.grid.axes c.args.outer.now.lo block.lo block.hi c.loop-axis.axis c.loop-axis-test.true c.requires.part)

pub gather-requires-clause-inner : goal.gather-requires-clause-inner
gather-requires-clause-inner c =
    let block = c.args.block.now in
    subst (λ z. 0 < get_or z.lo c.loop-axis.axis 0) (sym c.raised.ensures)
    (raised_inner c.args.outer.now.lo block.lo c.loop-axis.axis c.loop-axis-test.true c.requires.part.lo_three)

pub gather-requires-clause-room : goal.gather-requires-clause-room
gather-requires-clause-room c =
    let block = c.args.block.now in
    let outer = c.args.outer.now in
    let axis = c.loop-axis.axis in
    let volume = volume_of block.lo block.hi in
    subst (λ z. count_of c.loop-axis.edges.items + volume_of z.lo z.hi ≤ most_edges) (sym c.raised.ensures)
    (axes-room volume _ axis (count_of c.args.edges.now.items) (count_of c.loop-axis.edges.items) most_edges c.loop-axis-test.true
    c.loop-axis.invariant.count
    (raised_volume c.args.site.now.grid.axes outer.lo block.lo block.hi axis c.loop-axis-test.true c.requires.part) c.requires.room)

pub loop-axis-preserved : goal.loop-axis-preserved
loop-axis-preserved c =
    let g = c.args.site.now.grid in
    let labels = c.args.site.now.labels in
    let block = c.args.block.now in
    let axis = c.loop-axis.axis in
    let now = c.loop-axis.edges.items in
    let after = c.gather.new.edges.items in
    axes-more g labels c.args.outer.now.lo block.lo block.hi axis c.args.edges.now.items now after c.loop-axis-test.true c.requires.part
    c.loop-axis.invariant
    (subst (λ z. GainsContacts g labels (ends_among axis (in_box g.axes z.lo z.hi)) now after) c.raised.ensures c.in_ok-gather.ensures.gains)
    (subst (λ z. count_of after ≤ count_of now + volume_of z.lo z.hi) c.raised.ensures c.in_ok-gather.ensures.count)

-- after the last axis
all_axes : (c : goal.After-loop-axis) → AreAxesSummed c.args.site.now.grid c.args.site.now.labels c.args.outer.now.lo
    c.args.block.now.lo c.args.block.now.hi 3 c.args.edges.now.items c.loop-axis.edges.items
all_axes c =
    let block = c.args.block.now in
    let end : c.loop-axis.axis ≡ 3 = omega arith in
    subst (λ k. AreAxesSummed c.args.site.now.grid c.args.site.now.labels c.args.outer.now.lo block.lo block.hi k
    c.args.edges.now.items c.loop-axis.edges.items) end c.loop-axis.invariant

pub returns-clause-gains : goal.returns-clause-gains
returns-clause-gains c =
    let block = c.args.block.now in
    axes-all c.args.site.now.grid c.args.site.now.labels c.args.outer.now.lo block.lo block.hi
    c.args.edges.now.items c.loop-axis.edges.items c.requires.part (all_axes c)

pub returns-clause-count : goal.returns-clause-count
returns-clause-count c = (all_axes c).count
