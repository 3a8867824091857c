-- Nodes and their children.
use Rattle.std.proofs.Common.{◌≡◌, ℕ, zero, suc, ◌*◌, ◌-◌, ◌<◌, ◌≤◌, ◌==◌, min, cond, sym, ap, ◌∙◌, subst, arith}
use Rattle.std.specs.Int.{div_ceil}
use Rattle.std.proofs.Math.Nat.{mul-pos}
use Rattle.agglo_model.specs.Axes.{voxel_count}
use Rattle.agglo_model.specs.Cutting.{Chunking, IsChunking, cells_on, cells_at, first_node, node_count, level_of, cell_place, children_grid, child_count}
use Rattle.agglo_model.proofs.Levels.{on_level, cells_on-suc, first_node_le}
use Rattle.agglo_model.proofs.NodeCells.{node_place}

-- a node that is no leaf is on a higher level
pub inner_level : (c : Chunking) (m : ℕ) → m < node_count c → cells_at c 0 ≤ m → 0 < level_of c m
inner_level c m node past =
    let on = on_level c m node in
    pick (level_of c m) on.to (first_node_le c (suc (level_of c m)) 1)
  where
    pick : (k : ℕ) → m < first_node c (suc k) → (suc k ≤ 1 → first_node c (suc k) ≤ first_node c 1) → 0 < k
    pick zero to le = absurd (omega arith)
    pick (suc k) to le = omega arith

half_cells : (place n : ℕ) → place < div_ceil n 2 → 0 < min 2 (n - 2 * place)
half_cells place n below = omega arith

children_of : (k n : ℕ) → 0 < k → 0 < n → 0 < cond (k == 0) 0 n
children_of k n some more = grind arith

-- and has children
pub inner_has_children : (c : Chunking) → IsChunking c → (m : ℕ) → m < node_count c → cells_at c 0 ≤ m → 0 < child_count c m
inner_has_children c h m node past =
    let inner = inner_level c m node past in
    let place = node_place c h m node in
    let up : suc (level_of c m - 1) ≡ level_of c m = omega arith in
    let on = λ (axis : ℕ) (below : cell_place c m axis < cells_on c (level_of c m) axis).
    half_cells (cell_place c m axis) (cells_on c (level_of c m - 1) axis)
    (subst (λ n. cell_place c m axis < n)
    (ap (λ k. cells_on c k axis) (sym up) ∙ cells_on-suc c h (level_of c m - 1) axis) below) in
    children_of (level_of c m) (voxel_count (children_grid c m)) inner
    (mul-pos (mul-pos (on 0 place.in_x) (on 1 place.in_y)) (on 2 place.in_z))
