-- The graphs that nodes start from are those of the names in their cells that may still be merged.
use Rattle.std.specs.Prelude.{◌≡◌, ◌≢◌, ℕ, ◌<◌, IsTrue, List, length}
use Rattle.agglo_model.specs.Grid.{Grid}
use Rattle.agglo_model.specs.PairOrder.{Threshold, Reaches}
use Rattle.agglo_model.specs.Contacts.{between, InContact}
use Rattle.agglo_model.specs.Greedy.{Merge}
use Rattle.agglo_model.specs.Cutting.{Chunking, node_count, cells_at, child, child_count}
use Rattle.agglo_model.specs.Freezing.{occurs_in, IsFrozen}
use Rattle.agglo_model.specs.Work.{labels_before, labels_after}
use Rattle.agglo_model.specs.NodeLaws.{AreWorksOn}
use Rattle.agglo_model.specs.RegionGraph.{RegionGraph, IsGraphOfNames, IsCellGraph, IsResidue, residue_of}
use Rattle.agglo_model.specs.Joining.{IsJoined, kept_regions, is_named}

-- no contact of the name x reaches the threshold
abbrev pub NoneReaches : Grid → Threshold → List ℕ → ℕ → Type 0
NoneReaches g t labels x = (y : ℕ) → InContact g labels x y → ¬ (Reaches t (between g labels x y))

-- the graph has all names of node m's cell that a merge may still take, and their contacts inside the cell
pub record StartsNode (Keeps : ℕ → Type 0) (g : Grid) (t : Threshold) (c : Chunking) (m : ℕ) (labels : List ℕ) (graph : RegionGraph) : Type 0 where
  pub graph_is : IsGraphOfNames Keeps g c m labels graph
  pub frozen : (x : ℕ) → x ≢ 0 → IsFrozen c m labels x → Keeps x
  pub others : (x : ℕ) → x ≢ 0 → IsTrue (occurs_in c m labels x) → ¬ (Keeps x) → NoneReaches g t labels x

-- The graph of a leaf's cell under the labels from the start is that before its work.
abbrev pub LeavesStart : Type 0
LeavesStart = (g : Grid) (t : Threshold) (c : Chunking) (labels : List ℕ) (works : List (List Merge))
    → AreWorksOn g t c labels works → (m : ℕ) → length works ≡ m → m < cells_at c 0
    → (graph : RegionGraph) → IsCellGraph g c m labels graph
    → IsCellGraph g c m (labels_before labels works m) graph

-- these are the residues of the children of node m, in order, each as it was after the child's work
pub record AreKids (g : Grid) (t : Threshold) (c : Chunking) (labels : List ℕ) (works : List (List Merge)) (m : ℕ) (kids : List RegionGraph) : Type 0 where
  pub one_each : length kids ≡ child_count c m
  pub residues : (i : ℕ) → i < child_count c m
      → IsResidue g t c (child c m i) (labels_after labels works (child c m i)) (residue_of kids i)

-- Joined from the residues of its children with the labels from the start, the graph of a node has all names of
-- its cell that may still be merged.
abbrev pub JoinedStart : Type 0
JoinedStart = (g : Grid) (t : Threshold) (c : Chunking) (labels : List ℕ) (works : List (List Merge))
    → AreWorksOn g t c labels works → (m : ℕ) → length works ≡ m → m < node_count c → 0 < child_count c m
    → (kids : List RegionGraph) → AreKids g t c labels works m kids
    → (graph : RegionGraph) → IsJoined g c m labels kids graph
    → StartsNode (λ x. IsTrue (is_named (kept_regions c m 0 kids) x)) g t c m (labels_before labels works m) graph
