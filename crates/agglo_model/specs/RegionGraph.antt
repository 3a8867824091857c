-- Region graphs: the names in a cell and their contacts there.
use Rattle.std.specs.Prelude.{◌≡◌, ◌≢◌, ℕ, ◌<◌, ◌≤◌, ◌⊎◌, ◌↔◌, Bool, ◌&&◌, IsTrue, List, map, filter, fold, sum_by, Contains, AllPairs, [], slice_index_or}
use Rattle.agglo_model.specs.Grid.{Grid}
use Rattle.agglo_model.specs.PairOrder.{Contact, Threshold, added, most_edges}
use Rattle.agglo_model.specs.Contacts.{are, joins, total}
use Rattle.agglo_model.specs.Cutting.{Chunking}
use Rattle.agglo_model.specs.Freezing.{is_inside, occurs_in, touched_faces}
use Rattle.agglo_model.specs.Work.{IsPassed}

-- a name, and a number for the set of artificial faces that it touches
pub record Region : Type 0 where
  pub name : ℕ
  pub faces : ℕ

-- two names in contact, the smaller one first
pub record GraphEdge : Type 0 where
  pub a : ℕ
  pub b : ℕ
  pub contact : Contact

pub record RegionGraph : Type 0 where
  pub regions : List Region
  pub edges : List GraphEdge

-- the graph has a region of this name
abbrev pub HasRegion : RegionGraph → ℕ → Type 0
HasRegion graph x = (faces : ℕ) × Contains graph.regions (record { name = x; faces = faces })

-- one edge stands before another in a graph's list: by the smaller name, then by the greater one
abbrev pub StandsBefore : GraphEdge → GraphEdge → Type 0
StandsBefore e f = (e.a < f.a) ⊎ ((e.a ≡ f.a) × (e.b < f.b))

-- Regions are listed by ascending name, edges by their two names, each once. Both ends of an edge are
-- regions, and its contact has some edge of the grid.
pub record IsGraph (graph : RegionGraph) : Type 0 where
  pub regions_ascend : AllPairs (λ r s. r.name < s.name) graph.regions
  pub edges_ascend : AllPairs StandsBefore graph.edges
  pub ordered : (e : GraphEdge) → Contains graph.edges e → e.a < e.b
  pub touching : (e : GraphEdge) → Contains graph.edges e → 0 < e.contact.count
  pub from_region : (e : GraphEdge) → Contains graph.edges e → HasRegion graph e.a
  pub to_region : (e : GraphEdge) → Contains graph.edges e → HasRegion graph e.b

-- how many edges of the grid all contacts of a graph have together: no more than the largest volume has
abbrev pub grid_edges : RegionGraph → ℕ
grid_edges graph = sum_by (λ e. e.contact.count) graph.edges

abbrev pub IsWithinEdges : RegionGraph → Type 0
IsWithinEdges graph = grid_edges graph ≤ most_edges

-- an edge of a graph is between the names x and y, in either order
abbrev pub is_between : ℕ → ℕ → GraphEdge → Bool
is_between x y e = are e.a e.b x y

-- no contact: no edge of the grid, and a tie past all of their numbers, which are below `past`
abbrev pub no_contact : ℕ → Contact
no_contact past = record { sum = 0; count = 0; tie = past }

-- what several contacts make together
abbrev pub all_added : ℕ → List Contact → Contact
all_added past contacts = fold added (no_contact past) contacts

-- the contact of the names x and y by a list of graph edges: all that are between them, added up
abbrev pub contact_in : ℕ → List GraphEdge → ℕ → ℕ → Contact
contact_in past edges x y = all_added past (map (λ e. e.contact) (filter (is_between x y) edges))

-- the contact of two names by the edges of the grid that lie inside the cell of node m
abbrev pub between_inside : Grid → Chunking → ℕ → List ℕ → ℕ → ℕ → Contact
between_inside g c m labels x y = total g (λ e. joins g labels x y e && is_inside c m e)

-- The names in the cell of node m of which `Keeps` holds, with the artificial faces that they touch, and
-- for each two of them in contact inside the cell what the edges of the grid there make together.
pub record IsGraphOfNames (Keeps : ℕ → Type 0) (g : Grid) (c : Chunking) (m : ℕ) (labels : List ℕ) (graph : RegionGraph) : Type 0 where
  pub graph_is : IsGraph graph
  pub regions : (r : Region) → Contains graph.regions r
      ↔ ((r.name ≢ 0) × IsTrue (occurs_in c m labels r.name) × Keeps r.name × (r.faces ≡ touched_faces c m labels r.name))
  pub edges : (e : GraphEdge) → Contains graph.edges e
      ↔ ((e.a < e.b) × Keeps e.a × Keeps e.b × (0 < (between_inside g c m labels e.a e.b).count)
      × (e.contact ≡ between_inside g c m labels e.a e.b))

-- the graph of all names in the cell of node m
abbrev pub IsCellGraph : Grid → Chunking → ℕ → List ℕ → RegionGraph → Type 0
IsCellGraph g c m labels graph = IsGraphOfNames (λ _. Unit {0}) g c m labels graph

-- the residue of node m: the graph of the names that it passes to its parent
abbrev pub IsResidue : Grid → Threshold → Chunking → ℕ → List ℕ → RegionGraph → Type 0
IsResidue g t c m labels graph = IsGraphOfNames (IsPassed g t c m labels) g c m labels graph

-- one graph of a list of them
abbrev pub residue_of : List RegionGraph → ℕ → RegionGraph
residue_of residues m = slice_index_or residues m (record { regions = []; edges = [] })
