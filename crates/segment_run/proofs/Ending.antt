-- When all nodes have been worked: the merges are a run of the whole volume, and the levels are counted.
use Rattle.std.proofs.Common.{◌≡◌, ℕ, suc, ◌-◌, ◌^◌, ◌<◌, ◌≤◌, min, List, length, get_or, sum_by, Option, sym, ◌∙◌, subst, arith}
use Rattle.std.specs.Prelude.{All}
use Rattle.std.specs.List.{range_with_len}
use Rattle.std.proofs.Math.Nat.{mul-pos}
use Rattle.std.proofs.lemmas.Grind.{get_or_default_zero}
use Rattle.agglo_model.specs.Axes.{Axes, voxel_count}
use Rattle.agglo_model.specs.Basins.{AreBasins}
use Rattle.agglo_model.specs.Grid.{Grid, IsWhole}
use Rattle.agglo_model.specs.PairOrder.{Threshold}
use Rattle.agglo_model.specs.Greedy.{Merge, IsGreedyRun, IsMutualRun}
use Rattle.agglo_model.specs.Cutting.{Chunking, cells_at, first_node, last_level, node_count}
use Rattle.agglo_model.specs.Laws.{LabelsAreBounded}
use Rattle.agglo_model.specs.MergeLaws.{GreedyIsLawful}
use Rattle.agglo_model.specs.MergeTree.{AreLawful}
use Rattle.agglo_model.specs.NodeLaws.{WorksAreRun}
use Rattle.agglo_model.specs.RegionGraph.{RegionGraph, residue_of}
use Rattle.agglo_model.specs.Report.{Level}
use Rattle.agglo_model.specs.Segmentation.{AreLevels, level_count}
use Rattle.agglo_model.specs.Work.{work_of}
use Rattle.agglo_model.proofs.Levels.{first_node_le}
use Rattle.merge_tree.specs.Renaming.{HasSmallNames}
use Rattle.region_graph.specs.SiteView.{SiteView}
use Rattle.chunk_run.specs.Turns.{HasWorked, count_among}
use Rattle.chunk_run.proofs.FewerNames.{few_merges}
use Rattle.work_laws.proofs.LevelSums.{all_merges_counted}

-- a level counts all its nodes
all_counted : (c : Chunking) (works : List (List Merge)) (residues : List RegionGraph) (k : ℕ) → k ≤ last_level c
    → count_among c works residues (node_count c) k ≡ level_count c works residues k
all_counted c works residues k reached =
    let all : min (node_count c - first_node c k) (cells_at c k) ≡ cells_at c k =
    omega (arith, first_node_le c (suc k) (suc (last_level c)) (omega arith)) in
    λ i. record {
      nodes = all i;
      merges = sum_by (λ n. length (work_of works n)) (range_with_len (first_node c k) (all i));
      passed = sum_by (λ n. length (residue_of residues n).regions) (range_with_len (first_node c k) (all i));
    }

-- what is known when the run has come to its end
pub record HasEnded (s : SiteView) (merges : List Merge) (levels : List Level) : Type 0 where
  pub run : IsMutualRun s.grid s.threshold s.labels merges
  pub levels_are : AreLevels s.grid s.threshold s.cutting s.labels levels

ended : (s : SiteView) (waiting : List (Option RegionGraph)) (merges : List Merge) (levels : List Level)
    → HasWorked s (node_count s.cutting) (node_count s.cutting) waiting merges levels → WorksAreRun → HasEnded s merges levels
ended s waiting merges levels done law = record {
  run = subst (IsMutualRun s.grid s.threshold s.labels) (sym done.merges_are)
      (law s.grid s.threshold s.cutting s.labels done.works done.works_on done.worked);
  levels_are = record {
    works = done.works;
    works_are = record { one_each = done.worked; worked = done.works_on.works_are.worked };
    residues = done.residues;
    residues_are = record { one_each = done.one_residue_each; residues_are = done.residues_are };
    one_each = done.one_level_each;
    counted = λ k d reached. done.counted k d reached ∙ all_counted s.cutting done.works done.residues k reached;
  };
}

pub ended_at : (made s : SiteView) → made ≡ s → (waiting : List (Option RegionGraph)) (merges : List Merge) (levels : List Level)
    → HasWorked made (node_count made.cutting) (node_count made.cutting) waiting merges levels → WorksAreRun
    → HasEnded s merges levels
ended_at made s same waiting merges levels done law =
    subst (λ z. HasEnded z merges levels) same (ended made waiting merges levels done law)

-- ---- names and bytes in range

all_at_most : (xs : List ℕ) (n : ℕ) → ((i : ℕ) → get_or xs i 0 ≤ n) → All (λ x. x ≤ n) xs
all_at_most xs n small k d inside = omega (arith, get_or_default_zero xs k d inside, small k)

bytes_of : (g : Grid) → IsWhole g → All (λ b. b ≤ 255) g.bytes
bytes_of g whole = all_at_most g.bytes 255 (λ e. omega (arith, whole.bytes_fit e))

small_names : (axes : Axes) (t : Threshold) (merges : List Merge) → voxel_count axes ≤ 2 ^ 28 → AreLawful axes t merges
    → All HasSmallNames merges
small_names axes t merges few lawful k d inside =
    let names = lawful.names k d inside in
    record { survivor = omega (arith, names.ordered, names.in_range); absorbed = omega (arith, names.in_range) }

-- the names of a greedy run from basins can be labels
pub greedy_names : GreedyIsLawful → LabelsAreBounded → (g : Grid) → IsWhole g → (low : ℕ) (labels : List ℕ) → AreBasins g low labels
    → (t : Threshold) (merges : List Merge) → IsGreedyRun g t labels merges → All HasSmallNames merges
greedy_names lawful bounded g whole low labels basins t merges greedy =
    let h = whole.limits in
    small_names g.axes t merges h.most_voxels
    (lawful g t labels merges (mul-pos (mul-pos h.some_x h.some_y) h.some_z) (bytes_of g whole)
    (all_at_most labels (voxel_count g.axes) (bounded g low labels basins)) greedy)

-- the merges of all levels fit 32 bits
pub few_counted : LabelsAreBounded → (g : Grid) → IsWhole g → (low : ℕ) (labels : List ℕ) → AreBasins g low labels
    → (t : Threshold) (c : Chunking) (levels : List Level) → AreLevels g t c labels levels
    → sum_by (λ (level : Level). level.merges) levels < 2 ^ 32
few_counted bounded g whole low labels basins t c levels are = omega (
  arith,
  all_merges_counted g t c labels levels are,
  few_merges g t c (voxel_count g.axes) labels are.works are.works_are.worked
      (λ x (v, is). omega (arith, bounded g low labels basins v, is)),
  whole.limits.most_voxels,
)
