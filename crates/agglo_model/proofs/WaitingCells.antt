-- The labels of a cell wait for the work of the node's parent: a node changes labels in its own cell only.
use Rattle.std.proofs.Common.{◌≡◌, ◌≢◌, ℕ, suc, ◌+◌, ◌<◌, ◌≤◌, true, List, length, refl, sym, ◌∙◌, subst, arith}
use Rattle.std.proofs.lemmas.Bool.Decides.{nat_tests}
use Rattle.agglo_model.specs.Basins.{label_of}
use Rattle.agglo_model.specs.Grid.{Grid}
use Rattle.agglo_model.specs.PairOrder.{Threshold}
use Rattle.agglo_model.specs.Greedy.{Merge, after_merge}
use Rattle.agglo_model.specs.Connected.{AreConnected}
use Rattle.agglo_model.specs.Cutting.{Chunking, IsChunking, cells_at, last_level, node_count, level_of}
use Rattle.agglo_model.specs.Freezing.{is_held}
use Rattle.agglo_model.specs.Work.{IsNodeStep, labels_before}
use Rattle.agglo_model.specs.NodeLaws.{AreWorksOn, CellsWait, LeavesStartFresh}
use Rattle.agglo_model.proofs.ContactEdges.{InContact-names}
use Rattle.agglo_model.proofs.Renames.{new_name, label-renamed}
use Rattle.agglo_model.proofs.Levels.{first_node_le}
use Rattle.agglo_model.proofs.NodeNesting.{parent_is, parent_greater, parent_below, held_between, leaf_level, one_of_level}
use Rattle.agglo_model.proofs.FreeNames.{free_voxels}
use Rattle.agglo_model.proofs.Works.{works_keep}

other_name_stays : (a b x : ℕ) → x ≢ b → new_name a b x ≡ x
other_name_stays a b x apart = grind (arith, nat_tests)

-- a merge of node m leaves a voxel outside its cell the label
pub step_outside : (g : Grid) (t : Threshold) (c : Chunking) → IsChunking c → c.axes ≡ g.axes → (m : ℕ) → m < node_count c
    → (labels : List ℕ) (step : Merge) → AreConnected g.axes labels → IsNodeStep g t c m labels step
    → (v : ℕ) → ¬ (is_held c m v ≡ true) → label_of (after_merge labels step) v ≡ label_of labels v
step_outside g t c h axes m node labels step connected here v out =
    let pair = here.reciprocal in
    let pb : step.absorbed ≢ 0 =
    omega (arith, InContact-names g labels step.survivor step.absorbed pair.pair.touching) in
    let not_absorbed : label_of labels v ≢ step.absorbed = λ is. out (
    free_voxels c h m node labels (subst (λ a. AreConnected a labels) (sym axes) connected) step.absorbed pb pair.b_free v is) in
    label-renamed labels step.survivor step.absorbed v pb
    ∙ other_name_stays step.survivor step.absorbed (label_of labels v) not_absorbed

-- so a voxel keeps its label through the works of nodes that don't hold it
pub label_waits : (g : Grid) (t : Threshold) (c : Chunking) (labels : List ℕ) (works : List (List Merge))
    → AreWorksOn g t c labels works → (from to v : ℕ) → from ≤ to → to ≤ length works
    → ((m : ℕ) → from ≤ m → m < to → ¬ (is_held c m v ≡ true))
    → label_of (labels_before labels works to) v ≡ label_of (labels_before labels works from) v
label_waits g t c labels works on from to v order le out =
    let few = on.works_are.few in
    works_keep g t c labels works on
    (λ l. label_of l v ≡ label_of (labels_before labels works from) v) from to order le
    (λ m low high l step connected here was.
    step_outside g t c on.cutting on.axes m (omega arith) l step connected here v (out m low high) ∙ was)
    refl

pub cells_wait : CellsWait
cells_wait g t c labels works on m p worked node is v held =
    let parent = parent_is c m p is in
    let greater = parent_greater c on.cutting m p node parent in
    let below = parent_below c on.cutting m p node parent in
    label_waits g t c labels works on (m + 1) p v (omega arith) (omega arith)
    (λ n low high. held_between c on.cutting m p n v node parent (omega arith) high held)

-- the leaves come first
pub leaf_below : (c : Chunking) (m : ℕ) → m < cells_at c 0 → m < node_count c
leaf_below c m below = omega (arith, first_node_le c 1 (suc (last_level c)) (omega arith))

pub leaves_start_fresh : LeavesStartFresh
leaves_start_fresh g t c labels works on m worked leaf v held =
    label_waits g t c labels works on 0 m v (omega arith) worked
    (λ n low high in_n.
    let level : level_of c n ≡ level_of c m = leaf_level c n (omega arith) ∙ sym (leaf_level c m leaf) in
    let one = one_of_level c n m v level in_n held in
    omega arith)
