-- What rounds of merges make of a graph.
use Rattle.std.specs.Prelude.{ℕ, ◌≤◌, ◌++◌, List}
use Rattle.agglo_model.specs.PairOrder.{Threshold}
use Rattle.agglo_model.specs.Greedy.{Merge}
use Rattle.agglo_model.specs.RegionGraph.{Region, GraphEdge, RegionGraph}
use Rattle.agglo_model.specs.Settling.{IsReciprocalEdge, Settles}
use Rattle.mutual_merge.specs.declared.links.Link.{Link}
use Rattle.mutual_merge.specs.Linked.{AreLinked, graph_of, link_edges}

-- These merges of the graph `start` make another one of it: whatever settles that one settles `start` after them.
abbrev pub Carries : Threshold → ℕ → RegionGraph → List Merge → RegionGraph → Type 0
Carries t faces start merges graph = (more : List Merge) (left : RegionGraph)
    → Settles t faces graph more left → Settles t faces start (merges ++ more) left

-- The merges make these regions and links of those at the start, but for regions that no merge takes any more.
pub record HasMerged (t : Threshold) (faces : ℕ) (start : List Region) (start_links : List Link) (merges : List Merge) (regions : List Region) (links : List Link) : Type 0 where
  pub linked : AreLinked regions links
  pub fewer : link_edges links ≤ link_edges start_links
  pub carries : Carries t faces (graph_of start start_links) merges (graph_of regions links)

-- no pair is reciprocal
abbrev pub IsSettled : Threshold → ℕ → List Region → List Link → Type 0
IsSettled t faces regions links = (e : GraphEdge) → ¬ (IsReciprocalEdge t faces (graph_of regions links) e)
