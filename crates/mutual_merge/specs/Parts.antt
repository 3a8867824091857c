-- Parts of a graph that are settled one by one: no edge that reaches the threshold leads from one to another.
use Rattle.std.specs.Prelude.{◌≡◌, ℕ, ◌<◌, ◌↔◌, List, [], All, AllPairs, Contains, Ok, Result, Vec, flat_map, length, map, slice_index}
use Rattle.agglo_model.specs.PairOrder.{Threshold, Reaches}
use Rattle.agglo_model.specs.Greedy.{Merge}
use Rattle.agglo_model.specs.RegionGraph.{Region, GraphEdge, RegionGraph, IsGraph, HasRegion}
use Rattle.agglo_model.specs.Settling.{Settles}
use Rattle.mutual_merge.specs.declared.links.Link.{Link}
use Rattle.mutual_merge.specs.Linked.{graph_of, name_at}

-- Some regions of a graph and all edges among them. An edge that reaches the threshold joins two of these, or none.
pub record IsClosed (t : Threshold) (graph part : RegionGraph) : Type 0 where
  pub graph_is : IsGraph part
  pub regions : (r : Region) → Contains part.regions r → Contains graph.regions r
  pub edges : (e : GraphEdge) → Contains part.edges e
      ↔ (Contains graph.edges e × HasRegion part e.a × HasRegion part e.b)
  pub closed : (e : GraphEdge) → Contains graph.edges e → Reaches t e.contact → HasRegion part e.a ↔ HasRegion part e.b

-- two graphs have no region of the same name
abbrev pub AreApart : RegionGraph → RegionGraph → Type 0
AreApart one other = (x : ℕ) → HasRegion one x → ¬ (HasRegion other x)

-- each region of a graph is in one of these parts
pub record AreParts (t : Threshold) (graph : RegionGraph) (parts : List RegionGraph) : Type 0 where
  pub each : All (IsClosed t graph) parts
  pub apart : AllPairs AreApart parts
  pub cover : (r : Region) → Contains graph.regions r → (part : RegionGraph) × Contains parts part × HasRegion part r.name

-- the graph with nothing in it
abbrev pub no_graph : RegionGraph
no_graph = record { regions = []; edges = [] }

-- the merges settle a graph of which nothing is held back, whatever is left of it
abbrev pub SettlesFree : Threshold → RegionGraph → List Merge → Type 0
SettlesFree t graph merges = (left : RegionGraph) × Settles t 0 graph merges left

-- a link that reaches the threshold joins regions of one group
abbrev pub AreTogether : Threshold → List ℕ → Link → Type 0
AreTogether t groups l = Reaches t l.contact → slice_index groups l.a ≡ slice_index groups l.b

-- each region has the number of a group, of which there are `count`, and links that reach the threshold join regions of one group
pub record AreGroups (t : Threshold) (regions : List Region) (links : List Link) (count : ℕ) (groups : List ℕ) : Type 0 where
  pub one_each : length groups ≡ length regions
  pub below : All (λ group. group < count) groups
  pub joined : All (AreTogether t groups) links

-- the part of a graph that has the regions of one group
pub record IsGroup (t : Threshold) (regions : List Region) (links : List Link) (groups : List ℕ) (group : ℕ) (part : RegionGraph) : Type 0 where
  pub is_closed : IsClosed t (graph_of regions links) part
  pub members : (x : ℕ) → HasRegion part x
      ↔ ((place : ℕ) × (place < length regions) × (slice_index groups place ≡ group) × (name_at regions place ≡ x))

-- the merges settle the part of a group
abbrev pub SettlesGroup : Threshold → List Region → List Link → List ℕ → ℕ → List Merge → Type 0
SettlesGroup t regions links groups group merges = (part : RegionGraph) × IsGroup t regions links groups group part × SettlesFree t part merges

-- the merges of all these lists, if all of them are there
abbrev pub AreListsJoined : {E A : Type 0} → List (Result (Vec Merge A) E) → List Merge → Type 0
AreListsJoined {E} {A} lists merges = (there : List (Vec Merge A)) × (lists ≡ map Ok there) × (merges ≡ flat_map (λ list. list.items) there)
