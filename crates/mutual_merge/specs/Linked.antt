-- A region graph whose edges name regions by their places in the list of regions.
use Rattle.std.specs.Prelude.{◌≡◌, ℕ, ◌<◌, ◌≤◌, ◌^◌, ◌⊎◌, List, map, length, sum_by, All, AllPairs, slice_index_or}
use Rattle.agglo_model.specs.PairOrder.{most_edges}
use Rattle.agglo_model.specs.RegionGraph.{Region, GraphEdge, RegionGraph}
use Rattle.mutual_merge.specs.declared.links.Link.{Link}

-- the region at a place of a list
abbrev pub region_at : List Region → ℕ → Region
region_at regions k = slice_index_or regions k (record { name = 0; faces = 0 })

abbrev pub name_at : List Region → ℕ → ℕ
name_at regions k = (region_at regions k).name

abbrev pub faces_at : List Region → ℕ → ℕ
faces_at regions k = (region_at regions k).faces

-- the edge that a link is, where places have these names
abbrev pub edge_by : (ℕ → ℕ) → Link → GraphEdge
edge_by name l = record { a = name l.a; b = name l.b; contact = l.contact }

abbrev pub edges_by : (ℕ → ℕ) → List Link → List GraphEdge
edges_by name links = map (edge_by name) links

-- the graph of these regions and links
abbrev pub graph_of : List Region → List Link → RegionGraph
graph_of regions links = record { regions = regions; edges = edges_by (name_at regions) links }

-- regions by ascending name
abbrev pub Ascend : List Region → Type 0
Ascend regions = AllPairs (λ r s. r.name < s.name) regions

-- one link stands before another: by the smaller place, then by the greater one
abbrev pub LinkBefore : Link → Link → Type 0
LinkBefore l m = (l.a < m.a) ⊎ ((l.a ≡ m.a) × (l.b < m.b))

-- the link joins two of so many regions, the smaller place first, and has some edge of the grid
pub record IsLink (n : ℕ) (l : Link) : Type 0 where
  pub ordered : l.a < l.b
  pub inside : l.b < n
  pub touching : 0 < l.contact.count

-- how many edges of the grid all links have together
abbrev pub link_edges : List Link → ℕ
link_edges links = sum_by (λ l. l.contact.count) links

-- so many links join regions, and have no more edges of the grid than there are
pub record AreLinks (n : ℕ) (links : List Link) : Type 0 where
  pub each : All (IsLink n) links
  pub within : link_edges links ≤ most_edges

-- Regions by ascending name, and links between them in order. Places of regions are numbers of 32 bits.
pub record AreLinked (regions : List Region) (links : List Link) : Type 0 where
  pub regions_ascend : Ascend regions
  pub fit : length regions ≤ 2 ^ 32
  pub links_ascend : AllPairs LinkBefore links
  pub links_are : AreLinks (length regions) links

-- the link is at the region of this place
abbrev pub IsAtPlace : ℕ → Link → Type 0
IsAtPlace k l = (l.a ≡ k) ⊎ (l.b ≡ k)
