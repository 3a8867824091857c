use Rattle.std.proofs.Common.{◌&&◌, ap}
use Rattle.region_graph.specs.Boxes.{in_box}
use Rattle.region_graph.proofs.NameGains.{names-nothing}
use Rattle.region_graph.proofs.leaf.add_layer.Goals as goal

pub returns-else-is_artificial : goal.returns-else-is_artificial
returns-else-is_artificial c =
    let a = c.args.labels.now.axes in
    let layer = c.args.layer.now in
    names-nothing a c.args.labels.now.labels (λ v. c.args.is_artificial && in_box a layer.lo layer.hi v) c.args.face
    c.args.regions.now.items (λ v. ap (λ b. b && in_box a layer.lo layer.hi v) c.if-is_artificial.false)
