use Rattle.std.proofs.Common.{◌≡◌, refl, sym, ◌∙◌, subst, arith}
use Rattle.agglo_model.specs.Cutting.{low_corner, high_corner}
use Rattle.region_graph.specs.Boxes.{GainsNames, GainsFaces, IsBox, IsSomeBox, in_box}
use Rattle.region_graph.proofs.NameGains.{names-equal}
use Rattle.region_graph.proofs.Layers.{AreCorners, corners_are, corners_box, some_box}
use Rattle.region_graph.proofs.FaceNames.{AreFacesNamed, faces-none, faces-more, faces-all}
use Rattle.region_graph.proofs.leaf.names_inside.Goals as goal
use Rattle.region_graph.proofs.leaf.names_inside.Goals.{After-cell-cell}

-- the corners of the node's cell, which is a box
corners_at : (c : After-cell-cell) → AreCorners c.args.site.now.cutting c.args.m c.cell-cell.result.lo c.cell-cell.result.hi
corners_at c = corners_are c.cutting.result.now c.args.site.now.cutting c.args.m c.cell-cell.result.lo c.cell-cell.result.hi
    c.cutting.ensures.value c.cell-cell.ensures.low c.cell-cell.ensures.high

box_at : (c : After-cell-cell) → IsSomeBox c.args.site.now.grid.axes c.cell-cell.result.lo c.cell-cell.result.hi
box_at c = corners_box c.args.site.now.cutting c.args.site.now.grid.axes c.args.m c.cell-cell.result.lo c.cell-cell.result.hi
    c.cutting.ensures.site.chunking c.cutting.ensures.site.same_axes c.requires (corners_at c)

pub add_names-requires : goal.add_names-requires
add_names-requires c =
    let s = c.args.site.now in
    let cell = c.cell-cell.result in
    subst (λ a. IsBox a cell.lo cell.hi) (sym c.labels.ensures.axes)
    (some_box s.grid.axes cell.lo cell.hi
    (box_at (goal.at.add_names-requires c).After-cell-cell))

pub loop-axis-init : goal.loop-axis-init
loop-axis-init c =
    let s = c.args.site.now in
    let site = c.cutting.ensures.site in
    let cell = c.cell-cell.result in
    let held = c.labels.result.now in
    let corners = corners_at (goal.at.loop-axis-init c).After-cell-cell in
    let axes_are : held.axes ≡ s.cutting.axes = c.labels.ensures.axes ∙ sym site.same_axes in
    faces-none s.cutting c.args.m s.labels c.add_names.new.regions.items site.chunking c.requires
    (subst (λ es. GainsNames s.cutting.axes s.labels (in_box s.cutting.axes (low_corner s.cutting c.args.m) (high_corner s.cutting c.args.m)) 0
    es c.add_names.new.regions.items) c.new-regions.ensures.items
    (names-equal held.axes s.cutting.axes held.labels s.labels (in_box held.axes cell.lo cell.hi)
    (in_box s.cutting.axes (low_corner s.cutting c.args.m) (high_corner s.cutting c.args.m)) 0 0
    c.new-regions.result.items c.add_names.new.regions.items axes_are c.labels.ensures.labels
    (λ v i. in_box (axes_are i) (corners.low i) (corners.high i) v) refl c.in_ok-add_names.ensures))

pub add_faces-requires-clause-cell_fits : goal.add_faces-requires-clause-cell_fits
add_faces-requires-clause-cell_fits c =
    box_at (goal.at.add_faces-requires-clause-cell_fits c).After-cell-cell

pub loop-axis-preserved : goal.loop-axis-preserved
loop-axis-preserved c =
    let s = c.args.site.now in
    let site = c.cutting.ensures.site in
    let cell = c.cell-cell.result in
    let axis = c.loop-axis.axis in
    let now = c.loop-axis.regions.items in
    let after = c.add_faces.new.regions.items in
    let corners = corners_at (goal.at.loop-axis-preserved c).After-cell-cell in
    faces-more s.cutting c.args.m s.labels axis now after site.chunking c.requires c.loop-axis-test.true c.loop-axis.invariant
    (subst (λ a. GainsFaces a s.labels (low_corner s.cutting c.args.m) (high_corner s.cutting c.args.m) axis now after) (sym site.same_axes)
    (subst (λ ls. GainsFaces s.grid.axes s.labels ls (high_corner s.cutting c.args.m) axis now after) corners.low
    (subst (λ hs. GainsFaces s.grid.axes s.labels cell.lo hs axis now after) corners.high c.in_ok-add_faces.ensures)))

pub returns-clause-faces : goal.returns-clause-faces
returns-clause-faces c =
    let s = c.args.site.now in
    let end : c.loop-axis.axis ≡ 3 = omega arith in
    faces-all s.cutting c.args.m s.labels c.loop-axis.regions.items
    (subst (λ k. AreFacesNamed s.cutting c.args.m s.labels k c.loop-axis.regions.items) end c.loop-axis.invariant)
