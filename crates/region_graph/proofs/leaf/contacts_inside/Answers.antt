use Rattle.std.proofs.Common.{[], ap, subst, arith}
use Rattle.agglo_model.specs.Cutting.{high_corner}
use Rattle.region_graph.specs.Boxes.{GainsContacts, IsBlock, ends_above}
use Rattle.region_graph.specs.Lists.{count_of}
use Rattle.region_graph.proofs.Layers.{AreCorners, corners_are, corners_box, corners_three, some_box}
use Rattle.region_graph.proofs.Halves.{volume_box}
use Rattle.region_graph.proofs.AxisContacts.{block-contacts}
use Rattle.region_graph.proofs.leaf.contacts_inside.Goals as goal
use Rattle.region_graph.proofs.leaf.contacts_inside.Goals.{After-cell-cell}

-- the corners of the node's cell, which is a block of its own
corners_at : (c : After-cell-cell) → AreCorners c.args.site.now.cutting c.args.m c.cell-cell.result.lo c.cell-cell.result.hi
corners_at c = corners_are c.cutting.result.now c.args.site.now.cutting c.args.m c.cell-cell.result.lo c.cell-cell.result.hi
    c.cutting.ensures.value c.cell-cell.ensures.low c.cell-cell.ensures.high

block_at : (c : After-cell-cell) → IsBlock c.args.site.now.grid.axes c.cell-cell.result.lo c.cell-cell.result.lo c.cell-cell.result.hi
block_at c =
    let cell = c.cell-cell.result in
    let corners = corners_at c in
    let three = corners_three c.args.site.now.cutting c.args.m cell.lo cell.hi corners in
    record {
      box = corners_box c.args.site.now.cutting c.args.site.now.grid.axes c.args.m cell.lo cell.hi
          c.cutting.ensures.site.chunking c.cutting.ensures.site.same_axes c.requires corners;
      outer_low = λ axis below. omega arith;
      lo_three = three.0;
      hi_three = three.1;
    }

pub gather_blocks-requires-clause-part : goal.gather_blocks-requires-clause-part
gather_blocks-requires-clause-part c = block_at (goal.at.gather_blocks-requires-clause-part c).After-cell-cell

pub gather_blocks-requires-clause-room : goal.gather_blocks-requires-clause-room
gather_blocks-requires-clause-room c =
    let a = c.args.site.now.grid.axes in
    let cell = c.cell-cell.result in
    let box = (block_at (goal.at.gather_blocks-requires-clause-room c).After-cell-cell).box in
    let few = volume_box a cell.lo cell.hi (some_box a cell.lo cell.hi box) in
    let none = ap count_of c.new-edges.ensures.items in
    omega (arith, few, none, c.cutting.ensures.site.whole.limits.most_voxels)

pub returns-clause-contacts : goal.returns-clause-contacts
returns-clause-contacts c =
    let s = c.args.site.now in
    let site = c.cutting.ensures.site in
    let cell = c.cell-cell.result in
    let now = c.gather_blocks.new.edges.items in
    let corners = corners_at (goal.at.returns-clause-contacts c).After-cell-cell in
    block-contacts s.grid s.labels s.cutting c.args.m now site.chunking site.same_axes c.requires
    (subst (λ ls. GainsContacts s.grid s.labels (ends_above s.grid.axes ls ls (high_corner s.cutting c.args.m)) [] now) corners.low
    (subst (λ hs. GainsContacts s.grid s.labels (ends_above s.grid.axes cell.lo cell.lo hs) [] now) corners.high
    (subst (λ es. GainsContacts s.grid s.labels (ends_above s.grid.axes cell.lo cell.lo cell.hi) es now) c.new-edges.ensures.items
    c.in_ok-gather_blocks.ensures.gains)))

pub returns-clause-count : goal.returns-clause-count
returns-clause-count c =
    let a = c.args.site.now.grid.axes in
    let cell = c.cell-cell.result in
    let box = (block_at (goal.at.returns-clause-count c).After-cell-cell).box in
    let few = volume_box a cell.lo cell.hi (some_box a cell.lo cell.hi box) in
    let none = ap count_of c.new-edges.ensures.items in
    omega (arith, few, none, c.in_ok-gather_blocks.ensures.count, c.cutting.ensures.site.whole.limits.most_voxels)
