-- A graph without the regions that no merge takes any more, by places.
use Rattle.std.specs.Prelude.{◌≡◌, ℕ, ◌<◌, ◌≤◌, Bool, true, ◌&&◌, List, map, filter, length, slice_index}
use Rattle.agglo_model.specs.PairOrder.{Threshold}
use Rattle.agglo_model.specs.RegionGraph.{Region, RegionGraph}
use Rattle.agglo_model.specs.Settling.{IsLeftOf}
use Rattle.mutual_merge.specs.declared.links.Link.{Link}
use Rattle.mutual_merge.specs.Linked.{AreLinked, link_edges, region_at, graph_of}
use Rattle.mutual_merge.specs.Left.{is_kept, edges_left, regions_left}

-- the regions that are kept, and for each of them its place among them
pub record AreKept (regions : List Region) (kept : List Bool) (left : List Region) (places : List ℕ) : Type 0 where
  pub regions_are : left ≡ regions_left regions kept
  pub few : length left ≤ length regions
  pub one_each : length places ≡ length regions
  pub inside : (k : ℕ) → k < length regions → is_kept kept k ≡ true → slice_index places k < length left
  pub same : (k : ℕ) → k < length regions → is_kept kept k ≡ true
      → region_at left (slice_index places k) ≡ region_at regions k

-- a link by other places of its regions
abbrev pub link_at : List ℕ → Link → Link
link_at places l = record l { a = slice_index places l.a; b = slice_index places l.b }

-- the links between regions that are kept, by these places
abbrev pub kept_links : List Bool → List ℕ → List Link → List Link
kept_links kept places links = map (link_at places) (filter (λ l. is_kept kept l.a && is_kept kept l.b) links)

-- the graph of the regions that are kept and of the edges among them
abbrev pub kept_graph : List Region → List Link → List Bool → RegionGraph
kept_graph regions links kept = record { regions = regions_left regions kept; edges = edges_left regions links kept }

-- regions and links that are those that are kept, by places among them
pub record IsPart (regions : List Region) (links : List Link) (kept : List Bool) (left : List Region) (left_links : List Link) : Type 0 where
  pub linked : AreLinked left left_links
  pub few : length left ≤ length regions
  pub fewer : link_edges left_links ≤ link_edges links
  pub graph_is : kept_graph regions links kept ≡ graph_of left left_links

-- regions and links that are what is left of a graph, as if it were settled
pub record AreTrimmed (t : Threshold) (faces : ℕ) (regions : List Region) (links : List Link) (left : List Region) (left_links : List Link) : Type 0 where
  pub linked : AreLinked left left_links
  pub few : length left ≤ length regions
  pub fewer : link_edges left_links ≤ link_edges links
  pub left_is : IsLeftOf t faces (graph_of regions links) (graph_of left left_links)
