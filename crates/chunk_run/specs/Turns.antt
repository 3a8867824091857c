-- How far a run over the nodes of a cutting has come, and what the work of one node adds.
use Rattle.std.specs.Prelude.{◌≡◌, ◌≢◌, ◌⊎◌, ℕ, ◌+◌, ◌-◌, ◌^◌, ◌<◌, ◌≤◌, min, List, Option, Some, length, sum_by, slice_index_or}
use Rattle.std.specs.List.{range_with_len}
use Rattle.agglo_model.specs.Greedy.{Merge}
use Rattle.agglo_model.specs.Cutting.{Chunking, cells_at, first_node, last_level, parent, child, child_count}
use Rattle.agglo_model.specs.Work.{all_merges, work_of, labels_after}
use Rattle.agglo_model.specs.NodeLaws.{AreWorksOn}
use Rattle.agglo_model.specs.RegionGraph.{RegionGraph, IsCellGraph, IsResidue, residue_of}
use Rattle.agglo_model.specs.Joining.{IsJoined}
use Rattle.agglo_model.specs.JoiningLaws.{AreKids}
use Rattle.agglo_model.specs.Report.{Level}
use Rattle.region_graph.specs.SiteView.{SiteView}
use Rattle.work_laws.specs.Turns.{IsTurn}

-- ---- the work of one node

-- these graphs are residues of the children of node m, in order, each under some labels
pub record AreFromChildren (s : SiteView) (m : ℕ) (kids : List RegionGraph) : Type 0 where
  pub one_each : length kids ≡ child_count s.cutting m
  pub residues : (i : ℕ) → i < child_count s.cutting m
      → (labels : List ℕ) × IsResidue s.grid s.threshold s.cutting (child s.cutting m i) labels (residue_of kids i)

-- the graph of node m before its work: that of its cell where it is a leaf, and else joined from the kids
abbrev pub IsStartOf : SiteView → ℕ → List RegionGraph → RegionGraph → Type 0
IsStartOf s m kids graph = ((m < cells_at s.cutting 0) × IsCellGraph s.grid s.cutting m s.labels graph)
    ⊎ ((0 < child_count s.cutting m) × IsJoined s.grid s.cutting m s.labels kids graph)

-- Whatever works left these kids to node m, with these merges they go on by one node, whose residue is `left`.
abbrev pub TakesTurn : SiteView → ℕ → List RegionGraph → List Merge → RegionGraph → Type 0
TakesTurn s m kids merges left = (works : List (List Merge))
    → AreWorksOn s.grid s.threshold s.cutting s.labels works → length works ≡ m
    → AreKids s.grid s.threshold s.cutting s.labels works m kids
    → IsTurn s.grid s.threshold s.cutting s.labels works m merges left

-- ---- residues that wait

-- the residue of node n waits for its parent
abbrev pub Waits : List (Option RegionGraph) → ℕ → RegionGraph → Type 0
Waits waiting n graph = (d : Option RegionGraph) → slice_index_or waiting n d ≡ Some graph

-- each child of node m has a residue that waits
abbrev pub AreThere : Chunking → ℕ → List (Option RegionGraph) → Type 0
AreThere c m waiting = (i : ℕ) → i < child_count c m → (graph : RegionGraph) × Waits waiting (child c m i) graph

-- the first so many children of node m were taken out, and all others wait as before
pub record AreTaken (c : Chunking) (m count : ℕ) (before after : List (Option RegionGraph)) (kids : List RegionGraph) : Type 0 where
  pub one_each : length kids ≡ count
  pub taken : (i : ℕ) → i < count → Waits before (child c m i) (residue_of kids i)
  pub same_length : length after ≡ length before
  pub others : (n : ℕ) (d : Option RegionGraph) → ((i : ℕ) → i < count → n ≢ child c m i)
      → slice_index_or after n d ≡ slice_index_or before n d

-- ---- how far the run has come

-- the nodes of level k among the first m nodes
abbrev pub nodes_among : Chunking → ℕ → ℕ → List ℕ
nodes_among c m k = range_with_len (first_node c k) (min (m - first_node c k) (cells_at c k))

-- what level k counts of the first m nodes
abbrev pub count_among : Chunking → List (List Merge) → List RegionGraph → ℕ → ℕ → Level
count_among c works residues m k = record {
  nodes = min (m - first_node c k) (cells_at c k);
  merges = sum_by (λ n. length (work_of works n)) (nodes_among c m k);
  passed = sum_by (λ n. length (residue_of residues n).regions) (nodes_among c m k);
}

-- a level of which no node was worked, and what one level counts
abbrev pub no_node : Level
no_node = record { nodes = 0; merges = 0; passed = 0 }

abbrev pub level_at : List Level → ℕ → Level
level_at levels k = slice_index_or levels k no_node

-- the same with one node more, which makes so many merges and passes so many names
abbrev pub with_node : Level → ℕ → ℕ → Level
with_node level merges passed = record {
  nodes = level.nodes + 1;
  merges = level.merges + merges;
  passed = level.passed + passed;
}

-- level k can count one such node more: all numbers stay below 2^32
pub record HasRoom (levels : List Level) (k made gone_on : ℕ) : Type 0 where
  pub level : k < length levels
  pub nodes : (level_at levels k).nodes + 1 < 2 ^ 32
  pub merges : (level_at levels k).merges + made < 2 ^ 32
  pub passed : (level_at levels k).passed + gone_on < 2 ^ 32

-- The first m nodes were worked, by these merges. Those whose parents are not among the first p nodes wait.
pub record HasWorked (s : SiteView) (m p : ℕ) (waiting : List (Option RegionGraph)) (merges : List Merge) (levels : List Level) : Type 0 where
  pub works : List (List Merge)
  pub works_on : AreWorksOn s.grid s.threshold s.cutting s.labels works
  pub worked : length works ≡ m
  pub merges_are : merges ≡ all_merges works
  pub residues : List RegionGraph
  pub one_residue_each : length residues ≡ m
  pub residues_are : (n : ℕ) → n < m
      → IsResidue s.grid s.threshold s.cutting n (labels_after s.labels works n) (residue_of residues n)
  pub one_place_each : length waiting ≡ m
  pub waiting_are : (n q : ℕ) → n < m → parent s.cutting n ≡ Some q → p ≤ q → Waits waiting n (residue_of residues n)
  pub one_level_each : length levels ≡ last_level s.cutting + 1
  pub counted : (k : ℕ) (d : Level) → k ≤ last_level s.cutting
      → slice_index_or levels k d ≡ count_among s.cutting works residues m k
