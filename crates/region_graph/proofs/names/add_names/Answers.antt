use Rattle.std.proofs.Common.{◌≡◌, ◌+◌, get_or, ap, ◌∙◌, subst, arith}
use Rattle.agglo_model.specs.Axes.{voxel_at}
use Rattle.region_graph.specs.Boxes.{GainsNames, in_run}
use Rattle.region_graph.proofs.BoxRows.{AreRowsNamed, IsRow, named-none, named-first, named-more, named-layer, named-gained}
use Rattle.region_graph.proofs.names.add_names.Goals as goal

pub loop-z-init : goal.loop-z-init
loop-z-init c =
    let cell = c.args.cell.now in
    named-none c.args.labels.now.axes c.args.labels.now.labels c.args.faces cell.lo cell.hi c.args.regions.now.items

pub loop-y-init : goal.loop-y-init
loop-y-init c =
    let cell = c.args.cell.now in
    named-first c.args.labels.now.axes c.args.labels.now.labels c.args.faces cell.lo cell.hi c.loop-z.z
    c.args.regions.now.items c.loop-z.regions.items c.loop-z.invariant

pub loop-y-preserved : goal.loop-y-preserved
loop-y-preserved c =
    let a = c.args.labels.now.axes in
    let labels = c.args.labels.now.labels in
    let cell = c.args.cell.now in
    let y = c.loop-y.y in
    let z = c.loop-z.z in
    let row : IsRow cell.lo cell.hi y z = record {
      y_low = c.loop-y.auto.y;
      y_high = c.loop-y-test.true;
      z_low = c.loop-z.auto.z;
      z_high = c.loop-z-test.true;
    } in
    let first : c.voxel-row.result ≡ voxel_at a 0 y z =
    c.voxel-row.ensures.value ∙ ap (λ b. voxel_at b 0 y z) c.dims-dims.ensures.value in
    named-more a labels c.args.faces cell.lo cell.hi y z c.args.regions.now.items c.loop-y.regions.items c.add_row.new.regions.items
    c.requires row c.loop-y.invariant
    (subst (λ n. GainsNames a labels (in_run (n + get_or cell.lo 0 0) (n + get_or cell.hi 0 0)) c.args.faces
    c.loop-y.regions.items c.add_row.new.regions.items) first c.in_ok-add_row.ensures)

pub loop-z-preserved : goal.loop-z-preserved
loop-z-preserved c =
    let a = c.args.labels.now.axes in
    let labels = c.args.labels.now.labels in
    let cell = c.args.cell.now in
    let end : c.loop-y.y ≡ get_or cell.hi 1 0 = omega (arith, c.requires.from_y) in
    named-layer a labels c.args.faces cell.lo cell.hi c.loop-z.z c.args.regions.now.items c.loop-y.regions.items
    (subst (λ y. AreRowsNamed a labels c.args.faces cell.lo cell.hi y c.loop-z.z c.args.regions.now.items c.loop-y.regions.items)
    end c.loop-y.invariant)

pub returns : goal.returns
returns c =
    let a = c.args.labels.now.axes in
    let labels = c.args.labels.now.labels in
    let cell = c.args.cell.now in
    let end : c.loop-z.z ≡ get_or cell.hi 2 0 = omega (arith, c.requires.from_z) in
    named-gained a labels c.args.faces cell.lo cell.hi c.args.regions.now.items c.loop-z.regions.items
    (subst (λ z. AreRowsNamed a labels c.args.faces cell.lo cell.hi 0 z c.args.regions.now.items c.loop-z.regions.items)
    end c.loop-z.invariant)
