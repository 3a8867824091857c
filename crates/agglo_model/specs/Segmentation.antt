-- The answer of a segmentation: the labels and merges of greedy agglomeration from the basins, and what the
-- report counts for each level of chunks.
use Rattle.std.specs.Prelude.{◌≡◌, ℕ, ◌+◌, ◌<◌, ◌≤◌, List, length, sum_by, slice_index_or}
use Rattle.std.specs.List.{range_with_len}
use Rattle.agglo_model.specs.Grid.{Grid}
use Rattle.agglo_model.specs.Basins.{AreBasins, names}
use Rattle.agglo_model.specs.PairOrder.{Threshold}
use Rattle.agglo_model.specs.Greedy.{Merge, IsGreedyRun, after_merges}
use Rattle.agglo_model.specs.Cutting.{Chunking, cells_at, first_node, last_level, node_count}
use Rattle.agglo_model.specs.Work.{AreWorks, work_of, labels_after}
use Rattle.agglo_model.specs.RegionGraph.{RegionGraph, IsResidue, residue_of}
use Rattle.agglo_model.specs.Report.{Level}

-- the residues of all nodes, each as it is after the node's work
pub record AreResidues (g : Grid) (t : Threshold) (c : Chunking) (labels : List ℕ) (works : List (List Merge)) (residues : List RegionGraph) : Type 0 where
  pub one_each : length residues ≡ node_count c
  pub residues_are : (m : ℕ) → m < node_count c → IsResidue g t c m (labels_after labels works m) (residue_of residues m)

-- the numbers of the nodes of level k
abbrev pub nodes_of : Chunking → ℕ → List ℕ
nodes_of c k = range_with_len (first_node c k) (cells_at c k)

-- what level k counts: its nodes, the merges of their works, and the names that they pass on, a name once for
-- each node that passes it
abbrev pub level_count : Chunking → List (List Merge) → List RegionGraph → ℕ → Level
level_count c works residues k = record {
  nodes = cells_at c k;
  merges = sum_by (λ m. length (work_of works m)) (nodes_of c k);
  passed = sum_by (λ m. length (residue_of residues m).regions) (nodes_of c k);
}

-- The levels count the works of all nodes, which start from these labels.
pub record AreLevels (g : Grid) (t : Threshold) (c : Chunking) (labels : List ℕ) (levels : List Level) : Type 0 where
  pub works : List (List Merge)
  pub works_are : AreWorks g t c labels works
  pub residues : List RegionGraph
  pub residues_are : AreResidues g t c labels works residues
  pub one_each : length levels ≡ last_level c + 1
  pub counted : (k : ℕ) (d : Level) → k ≤ last_level c → slice_index_or levels k d ≡ level_count c works residues k

-- The whole answer for a volume: its basins are those above `low`, the merges are the greedy run from them, and
-- the labels those after it.
pub record IsSegmentation (g : Grid) (low : ℕ) (t : Threshold) (c : Chunking) (labels : List ℕ) (basins : ℕ) (merges : List Merge) (levels : List Level) : Type 0 where
  pub start : List ℕ
  pub basins_are : AreBasins g low start
  pub greedy : IsGreedyRun g t start merges
  pub labels_are : labels ≡ after_merges start merges
  pub basins_count : basins ≡ length (names start)
  pub levels_are : AreLevels g t c start levels
