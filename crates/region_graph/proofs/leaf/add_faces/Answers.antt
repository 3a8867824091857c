use Rattle.std.proofs.Common.{◌*◌, ◌^◌, ◌<◌, ◌&&◌, ltb, get_or, ap, ◌∙◌, arith}
use Rattle.agglo_model.specs.Cutting.{length_on}
use Rattle.agglo_model.proofs.Edges.{each_axis}
use Rattle.region_graph.specs.Boxes.{in_box, lowest_to, highest_from}
use Rattle.region_graph.proofs.NameGains.{names-equal}
use Rattle.region_graph.proofs.leaf.add_faces.Goals as goal

pub pow-bit-requires : goal.pow-bit-requires
pow-bit-requires c = each_axis (λ k. 4 ^ k < 256) c.args.axis c.requires.axis (omega arith) (omega arith) (omega arith)

pub returns : goal.returns
returns c =
    let a = c.args.site.now.grid.axes in
    let labels = c.args.site.now.labels in
    let cell = c.args.cell.now in
    let axis = c.args.axis in
    let before = c.args.regions.now.items in
    let between = c.add_layer.new.regions.items in
    let after = c.add_layer-2.new.regions.items in
    let held = c.labels-labels.result.now in
    let low_test = ltb 0 (get_or cell.lo axis 0) in
    let high_test = ltb (get_or cell.hi axis 0) (length_on a axis) in
    record {
      between = between;
      low = names-equal held.axes a held.labels labels (λ v. low_test && in_box held.axes c.lowest.result.lo c.lowest.result.hi v)
          (λ v. low_test && in_box a cell.lo (lowest_to cell.lo cell.hi axis) v) c.pow-bit.result (4 ^ axis) before between
          c.labels-labels.ensures.axes c.labels-labels.ensures.labels
          (λ v i. low_test && in_box (c.labels-labels.ensures.axes i) (c.lowest.ensures i).lo (c.lowest.ensures i).hi v)
          c.pow-bit.ensures c.in_ok-add_layer.ensures;
      high = names-equal held.axes a held.labels labels
          (λ v. ltb (get_or cell.hi axis 0) c.axis_length.result && in_box held.axes c.highest.result.lo c.highest.result.hi v)
          (λ v. high_test && in_box a (highest_from cell.lo cell.hi axis) cell.hi v) (2 * c.pow-bit.result) (2 * 4 ^ axis) between after
          c.labels-labels.ensures.axes c.labels-labels.ensures.labels
          (λ v i. ltb (get_or cell.hi axis 0) ((c.axis_length.ensures ∙ ap (λ b. length_on b axis) (c.dims.ensures.value ∙ c.labels-labels.ensures.axes)) i)
          && in_box (c.labels-labels.ensures.axes i) (c.highest.ensures i).lo (c.highest.ensures i).hi v)
          (ap (λ n. 2 * n) c.pow-bit.ensures) c.in_ok-add_layer-2.ensures;
    }
