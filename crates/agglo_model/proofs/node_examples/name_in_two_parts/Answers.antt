use Rattle.std.proofs.Common.{ℕ, zero, suc, List, [], ◌∷◌, arith}
use Rattle.agglo_model.specs.Axes.{IsWithinLimits}
use Rattle.agglo_model.specs.Connected.{AreNeighbours, IsPath}
use Rattle.agglo_model.specs.NodeExamples.{three_voxels}
use Rattle.agglo_model.proofs.Paths.{path_name}
use Rattle.agglo_model.proofs.CloseVoxels.{neighbours_close, neighbour_below}
use Rattle.agglo_model.proofs.node_examples.name_in_two_parts.Goals as goal

abbrev two_parts : List ℕ
two_parts = 1 ∷ 2 ∷ 1 ∷ []

limits : IsWithinLimits three_voxels
limits = omega arith

-- the first edge of a path from voxel 0 leads to voxel 1, which has another name
no_first_edge : (k u : ℕ) → (IsPath three_voxels two_parts 1 k 0 2 → ⊥) → AreNeighbours three_voxels 0 u
    → IsPath three_voxels two_parts 1 k u 2 → ⊥
no_first_edge k zero rest near path = rest path
no_first_edge k (suc zero) rest near path = omega (arith, path_name three_voxels two_parts 1 k 1 2 path)
no_first_edge k (suc (suc u)) rest near path = omega (
  arith,
  (neighbours_close three_voxels limits 0 (suc (suc u)) near).on_x,
  neighbour_below three_voxels 0 (suc (suc u)) near,
)

no_path : (k : ℕ) → IsPath three_voxels two_parts 1 k 0 2 → ⊥
no_path zero path = omega (arith, path.1)
no_path (suc k) (name, (u, near, path)) = no_first_edge k u (no_path k) near path

pub returns : goal.returns
returns c = λ connected. let path = connected 0 2 (omega arith) (omega arith) in no_path path.0 path.1
