use Rattle.std.proofs.Common.{◌≡◌, length}
use Rattle.agglo_model.specs.Axes.{voxel_at}
use Rattle.agglo_model.specs.Boxes.{box_grid}
use Rattle.edge_order.specs.Steps.{AreBoxSteps}
use Rattle.edge_order.proofs.rows.push_row.Given as goal

abbrev pub invariant-loop-key : goal.invariant-loop-key
invariant-loop-key l = record {
  so_far : length l.steps.items ≡ voxel_at (box_grid l.cell.lo l.cell.hi) l.key-index l.y l.z;
  best : AreBoxSteps l.vol l.low l.cell.lo l.cell.hi l.steps.items;
}
