-- What it means to settle the graph of a node: it is the node's work.
use Rattle.std.specs.Prelude.{◌≡◌, ◌≢◌, ℕ, ◌<◌, Bool, IsTrue, List, Contains}
use Rattle.agglo_model.specs.Grid.{Grid}
use Rattle.agglo_model.specs.PairOrder.{Threshold, Reaches}
use Rattle.agglo_model.specs.Contacts.{between, InContact}
use Rattle.agglo_model.specs.Greedy.{Merge, after_merges}
use Rattle.agglo_model.specs.Connected.{AreConnected}
use Rattle.agglo_model.specs.Cutting.{Chunking, IsChunking, node_count, artificial_faces}
use Rattle.agglo_model.specs.Freezing.{occurs_in, IsFrozen}
use Rattle.agglo_model.specs.Work.{IsWork}
use Rattle.agglo_model.specs.RegionGraph.{RegionGraph, HasRegion, IsCellGraph, IsGraphOfNames, IsResidue}
use Rattle.agglo_model.specs.Settling.{Settles}

-- node m of a cutting of the volume, in which each name is connected
pub record IsNodeOf (g : Grid) (c : Chunking) (m : ℕ) (labels : List ℕ) : Type 0 where
  pub cutting : IsChunking c
  pub axes : c.axes ≡ g.axes
  pub node : m < node_count c
  pub connected : AreConnected g.axes labels

-- The graph of the names of node m of which `Keeps` holds. It holds of the names that are frozen in the node, and no
-- contact of another name that occurs there reaches the threshold.
pub record IsNodeGraph (Keeps : ℕ → Type 0) (g : Grid) (t : Threshold) (c : Chunking) (m : ℕ) (labels : List ℕ) (graph : RegionGraph) : Type 0 where
  pub place : IsNodeOf g c m labels
  pub graph_is : IsGraphOfNames Keeps g c m labels graph
  pub frozen_kept : (x : ℕ) → x ≢ 0 → IsFrozen c m labels x → Keeps x
  pub others_stuck : (x y : ℕ) → x ≢ 0 → IsTrue (occurs_in c m labels x) → ¬ (Keeps x)
      → InContact g labels x y → ¬ (Reaches t (between g labels x y))

-- the merges are the work of the node, and this is its residue
pub record IsWorkOf (g : Grid) (t : Threshold) (c : Chunking) (m : ℕ) (labels : List ℕ) (merges : List Merge) (left : RegionGraph) : Type 0 where
  pub work : IsWork g t c m labels merges
  pub residue : IsResidue g t c m (after_merges labels merges) left

-- Settling such a graph, where regions that touch artificial faces are held back, is the work of the node, and leaves
-- its residue. The names that are kept are given by a test.
abbrev pub SettlingIsWork : Type 0
SettlingIsWork = (keeps : ℕ → Bool) (g : Grid) (t : Threshold) (c : Chunking) (m : ℕ) (labels : List ℕ) (graph : RegionGraph)
    (merges : List Merge) (left : RegionGraph) → IsNodeGraph (λ x. IsTrue (keeps x)) g t c m labels graph
    → Settles t (artificial_faces c m) graph merges left → IsWorkOf g t c m labels merges left

-- the same for the graph of all names in the cell
abbrev pub SettlingCellIsWork : Type 0
SettlingCellIsWork = (g : Grid) (t : Threshold) (c : Chunking) (m : ℕ) (labels : List ℕ) (graph : RegionGraph)
    (merges : List Merge) (left : RegionGraph) → IsNodeOf g c m labels → IsCellGraph g c m labels graph
    → Settles t (artificial_faces c m) graph merges left → IsWorkOf g t c m labels merges left

-- one of the graphs has a region of the name x
abbrev pub IsNameOf : List RegionGraph → ℕ → Type 0
IsNameOf graphs x = (graph : RegionGraph) × Contains graphs graph × HasRegion graph x

-- the same for the names of several graphs, as residues
abbrev pub SettlingJoinedIsWork : Type 0
SettlingJoinedIsWork = (graphs : List RegionGraph) (g : Grid) (t : Threshold) (c : Chunking) (m : ℕ) (labels : List ℕ)
    (graph : RegionGraph) (merges : List Merge) (left : RegionGraph) → IsNodeGraph (IsNameOf graphs) g t c m labels graph
    → Settles t (artificial_faces c m) graph merges left → IsWorkOf g t c m labels merges left
