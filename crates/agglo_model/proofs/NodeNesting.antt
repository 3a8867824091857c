-- Which nodes hold one voxel: one node of each level, and the parent of each of them.
use Rattle.std.proofs.Common.{◌≡◌, ◌≢◌, inl, inr, ℕ, suc, ◌+◌, ◌*◌, ◌/◌, ◌<◌, ◌≤◌, ◌==◌, Bool, true, false, cond, Some, None, refl, sym, ap, ◌∙◌, subst, arith}
use Rattle.std.proofs.lemmas.Bool.{cases_lt, eqb-false}
use Rattle.std.proofs.Math.Nat.{div-div-eq-div-mul, pow-suc}
use Rattle.agglo_model.specs.Axes.{voxel_at, coordinate}
use Rattle.agglo_model.specs.Cutting.{Chunking, IsChunking, length_on, cell_length, level_grid, cells_at, last_level, first_node, node_count, root, level_of, cell_place, node_at, node_above, parent}
use Rattle.agglo_model.specs.Freezing.{is_held}
use Rattle.agglo_model.proofs.Levels.{IsOnLevel, on_level, level_of-is, first_node_le}
use Rattle.agglo_model.proofs.NodeCells.{node_place, node-on_level, half_place, root_by_level, on_level-lt}
use Rattle.agglo_model.proofs.Freezing.{held_voxel, held_node, held_from}
use Rattle.agglo_model.proofs.CellBoxes.{node-coordinates}

-- a greater node is on no lower level
pub level_of_le : (c : Chunking) (m n : ℕ) → m ≤ n → n < node_count c → level_of c m ≤ level_of c n
level_of_le c m n le below = elim (cases_lt (level_of c n) (level_of c m)) [
  | inr at_most ↦ at_most
  | inl less ↦ absurd (omega (
    arith,
    (on_level c m (omega arith)).from,
    (on_level c n below).to,
    first_node_le c (suc (level_of c n)) (level_of c m) (omega arith),
  ))
]

-- nodes of one level hold no voxel in common
pub one_of_level : (c : Chunking) (m n v : ℕ) → level_of c m ≡ level_of c n → is_held c m v ≡ true
    → is_held c n v ≡ true → m ≡ n
one_of_level c m n v level in_m in_n =
    sym (held_node c m v in_m) ∙ ap (λ k. node_at c k v) level ∙ held_node c n v in_n

-- the nodes of the first level are the leaves
pub leaf_level : (c : Chunking) (m : ℕ) → m < cells_at c 0 → level_of c m ≡ 0
leaf_level c m below = level_of-is c 0 m (record { reached = omega arith; from = omega arith; to = omega arith })

-- what it says that p is the parent of m
pub record IsParent (c : Chunking) (m p : ℕ) : Type 0 where
  pub not_root : m ≢ root c
  pub above : node_above c m ≡ p

from_some : (b : Bool) (n p : ℕ) → cond b None (Some n) ≡ Some p → (b ≡ false) × (n ≡ p)
from_some true n p is = absurd (cc)
from_some false n p is = (refl, cc)

pub parent_is : (c : Chunking) (m p : ℕ) → parent c m ≡ Some p → IsParent c m p
parent_is c m p is =
    let split = from_some (m == root c) (node_above c m) p is in
    record { not_root = eqb-false m (root c) split.0; above = split.1 }

-- a parent is on the next level
pub parent_on_level : (c : Chunking) → IsChunking c → (m p : ℕ) → m < node_count c → IsParent c m p
    → IsOnLevel c (suc (level_of c m)) p
parent_on_level c h m p node is =
    let k = level_of c m in
    let reached = (on_level c m node).reached in
    let inner : k ≢ last_level c = λ last. is.not_root (root_by_level c h m node last) in
    subst (IsOnLevel c (suc k)) is.above
    (node-on_level c (suc k) (cell_place c m 0 / 2) (cell_place c m 1 / 2) (cell_place c m 2 / 2) (omega arith)
    (half_place c h k (cell_place c m 0) (cell_place c m 1) (cell_place c m 2) (node_place c h m node)))

-- and its number is greater
pub parent_greater : (c : Chunking) → IsChunking c → (m p : ℕ) → m < node_count c → IsParent c m p → m < p
parent_greater c h m p node is =
    omega (arith, (on_level c m node).to, (parent_on_level c h m p node is).from)

pub parent_below : (c : Chunking) → IsChunking c → (m p : ℕ) → m < node_count c → IsParent c m p → p < node_count c
parent_below c h m p node is = on_level-lt c (suc (level_of c m)) p (parent_on_level c h m p node is)

-- the cells of the next level are twice as long
pub half_of_cell : (c : Chunking) (k axis x : ℕ) → x / cell_length c (suc k) axis ≡ x / cell_length c k axis / 2
half_of_cell c k axis x =
    ap (λ l. x / l) twice ∙ sym (div-div-eq-div-mul x (cell_length c k axis) 2)
  where
    twice : cell_length c (suc k) axis ≡ cell_length c k axis * 2
    twice = ap (λ p. length_on c.leaf axis * p) (pow-suc 2 k) ∙ omega arith

-- a parent holds each voxel of its child
pub parent_holds : (c : Chunking) → IsChunking c → (m p v : ℕ) → m < node_count c → IsParent c m p
    → is_held c m v ≡ true → is_held c p v ≡ true
parent_holds c h m p v node is held =
    let k = level_of c m in
    let below = held_voxel c m v held in
    let at = node-coordinates c h m v node below (held_node c m v held) in
    let half_x : coordinate c.axes v 0 / cell_length c (suc k) 0 ≡ cell_place c m 0 / 2 =
    half_of_cell c k 0 (coordinate c.axes v 0) ∙ ap (λ q. q / 2) at.in_x in
    let half_y : coordinate c.axes v 1 / cell_length c (suc k) 1 ≡ cell_place c m 1 / 2 =
    half_of_cell c k 1 (coordinate c.axes v 1) ∙ ap (λ q. q / 2) at.in_y in
    let half_z : coordinate c.axes v 2 / cell_length c (suc k) 2 ≡ cell_place c m 2 / 2 =
    half_of_cell c k 2 (coordinate c.axes v 2) ∙ ap (λ q. q / 2) at.in_z in
    let there : node_at c (suc k) v ≡ node_above c m =
    λ i. first_node c (suc k) + voxel_at (level_grid c (suc k)) (half_x i) (half_y i) (half_z i) in
    let level : level_of c p ≡ suc k = level_of-is c (suc k) p (parent_on_level c h m p node is) in
    held_from c p v below (ap (λ j. node_at c j v) level ∙ there ∙ is.above)

-- between a node and its parent no node holds a voxel of it
pub held_between : (c : Chunking) → IsChunking c → (m p n v : ℕ) → m < node_count c → IsParent c m p
    → m < n → n < p → is_held c m v ≡ true → ¬ (is_held c n v ≡ true)
held_between c h m p n v node is after before in_m in_n =
    let p_below = parent_below c h m p node is in
    let level_p : level_of c p ≡ suc (level_of c m) =
    level_of-is c (suc (level_of c m)) p (parent_on_level c h m p node is) in
    let low = level_of_le c m n (omega arith) (omega arith) in
    let high = level_of_le c n p (omega arith) p_below in
    elim (cases_lt (level_of c m) (level_of c n)) [
      | inr same ↦ (let level : level_of c m ≡ level_of c n = omega arith in
          let one = one_of_level c m n v level in_m in_n in omega arith)
      | inl next ↦ (let level : level_of c n ≡ level_of c p = omega arith in
          let one = one_of_level c n p v level in_n (parent_holds c h m p v node is in_m) in omega arith)
    ]
