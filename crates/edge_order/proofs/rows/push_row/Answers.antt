use Rattle.std.proofs.Common.{◌≡◌, ◌+◌, ℕ, List, length, get_or, sym, ap, ◌∙◌, subst, arith}
use Rattle.std.proofs.lemmas.List.{length_push}
use Rattle.agglo_model.specs.Axes.{Axes, IsPlace, voxel_at}
use Rattle.agglo_model.specs.Boxes.{box_grid, box_voxel}
use Rattle.edge_order.specs.Steps.{AreBoxSteps, IsBestStep}
use Rattle.edge_order.proofs.RowKeys.{best_push, best_at_place}
use Rattle.edge_order.proofs.rows.push_row.Goals as goal

pub loop-key-preserved : goal.loop-key-preserved
loop-key-preserved c =
    let g = c.args.vol.now in
    let lo : List ℕ = c.args.cell.now.lo in
    let hi : List ℕ = c.args.cell.now.hi in
    let b : Axes = box_grid lo hi in
    let x : ℕ = c.loop-key.key-index in
    let i : ℕ = voxel_at b x c.args.y c.args.z in
    let items = c.in_ok-push.ensures.items in
    let len : length c.loop-key.steps.items ≡ i = c.loop-key.invariant.so_far in
    let place : IsPlace b x c.args.y c.args.z = record { in_x = omega arith; in_y = c.requires.in_y; in_z = c.requires.in_z } in
    let best : IsBestStep g c.args.low (box_voxel g.axes lo hi i) c.of_key.result =
    best_at_place g c.args.low lo hi x c.args.y c.args.z c.of_key.result place
    (subst (λ s. IsBestStep g c.args.low (voxel_at g.axes (get_or lo 0 0 + x) (get_or lo 1 0 + c.args.y) (get_or lo 2 0 + c.args.z)) s) (sym c.of_key.ensures) (c.find_keys.ensures c.args.low x c.loop-key-test.true)) in
    record {
      so_far = ap length items ∙ length_push c.loop-key.steps.items c.of_key.result ∙ omega (arith, len);
      best = subst (λ l. AreBoxSteps g c.args.low lo hi l) (sym items)
          (best_push g c.args.low lo hi i c.loop-key.steps.items c.of_key.result c.loop-key.invariant.best len best);
    }
