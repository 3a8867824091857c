use Rattle.std.proofs.Common.{◌≡◌, length}
use Rattle.agglo_model.specs.Axes.{voxel_at}
use Rattle.agglo_model.specs.Boxes.{box_grid}
use Rattle.edge_order.specs.Steps.{AreBoxSteps}
use Rattle.edge_order.proofs.rows.cell_steps.Given as goal

abbrev pub invariant-loop-z : goal.invariant-loop-z
invariant-loop-z l = record {
  room : length l.keys.items ≡ (box_grid l.cell.lo l.cell.hi).nx;
  so_far : length l.steps.items ≡ voxel_at (box_grid l.cell.lo l.cell.hi) 0 0 l.z;
  best : AreBoxSteps l.vol l.low l.cell.lo l.cell.hi l.steps.items;
}

abbrev pub invariant-loop-y : goal.invariant-loop-y
invariant-loop-y l = record {
  room : length l.keys.items ≡ (box_grid l.cell.lo l.cell.hi).nx;
  so_far : length l.steps.items ≡ voxel_at (box_grid l.cell.lo l.cell.hi) 0 l.y l.z;
  best : AreBoxSteps l.vol l.low l.cell.lo l.cell.hi l.steps.items;
}
