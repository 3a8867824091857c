-- Merging the reciprocal pairs of a region graph, whatever it was made of.
use Rattle.std.specs.Prelude.{◌≡◌, ◌≢◌, ℕ, ◌⊎◌, ◌↔◌, ◌==◌, if◌then◌else◌, List, [], ◌∷◌, map, Contains, bit_and, bit_or}
use Rattle.agglo_model.specs.PairOrder.{Threshold, Before, Reaches}
use Rattle.agglo_model.specs.Greedy.{Merge}
use Rattle.agglo_model.specs.RegionGraph.{Region, GraphEdge, RegionGraph, IsGraph, HasRegion, contact_in}

-- the region touches one of these faces, so its fate is not decided here
abbrev pub IsHeldBack : ℕ → Region → Type 0
IsHeldBack faces r = bit_and r.faces faces ≢ 0

-- no region of the name x touches one of these faces
abbrev pub IsFreeIn : RegionGraph → ℕ → ℕ → Type 0
IsFreeIn graph faces x = (r : Region) → Contains graph.regions r → r.name ≡ x → bit_and r.faces faces ≡ 0

-- one of the names of the edge is x
abbrev pub IsAt : ℕ → GraphEdge → Type 0
IsAt x e = (e.a ≡ x) ⊎ (e.b ≡ x)

-- The edge joins a reciprocal pair of the graph: both regions are free, the contact reaches the threshold,
-- and no edge at either region comes before it. In a graph with edges of equal rank two such pairs may
-- share a region.
pub record IsReciprocalEdge (t : Threshold) (faces : ℕ) (graph : RegionGraph) (e : GraphEdge) : Type 0 where
  pub there : Contains graph.edges e
  pub a_free : IsFreeIn graph faces e.a
  pub b_free : IsFreeIn graph faces e.b
  pub reaches : Reaches t e.contact
  pub first_of_a : (f : GraphEdge) → Contains graph.edges f → IsAt e.a f → ¬ (Before f.contact e.contact)
  pub first_of_b : (f : GraphEdge) → Contains graph.edges f → IsAt e.b f → ¬ (Before f.contact e.contact)

-- the edge of a merge
abbrev pub edge_of : Merge → GraphEdge
edge_of merge = record { a = merge.survivor; b = merge.absorbed; contact = merge.contact }

-- a name after a merge, and an edge with its names after it
abbrev pub name_after : Merge → ℕ → ℕ
name_after merge x = if x == merge.absorbed then merge.survivor else x

abbrev pub edge_after : Merge → GraphEdge → GraphEdge
edge_after merge e = record e { a = name_after merge e.a; b = name_after merge e.b }

-- the faces of both regions of a merge
pub record HasBothFaces (graph : RegionGraph) (merge : Merge) (faces : ℕ) : Type 0 where
  pub own : ℕ
  pub taken : ℕ
  pub survivor : Contains graph.regions (record { name = merge.survivor; faces = own })
  pub absorbed : Contains graph.regions (record { name = merge.absorbed; faces = taken })
  pub both : faces ≡ bit_or own taken

-- The graph after a merge: the survivor touches the faces of both, the absorbed region is gone, all others
-- are as they were; edges to the same partner are added up.
pub record IsGraphAfter (graph : RegionGraph) (merge : Merge) (after : RegionGraph) : Type 0 where
  pub graph_is : IsGraph after
  pub survivor : (faces : ℕ) → Contains after.regions (record { name = merge.survivor; faces = faces })
      ↔ HasBothFaces graph merge faces
  pub others : (r : Region) → r.name ≢ merge.survivor
      → Contains after.regions r ↔ (Contains graph.regions r × (r.name ≢ merge.absorbed))
  pub contacts : (past x y : ℕ) → x ≢ y
      → contact_in past after.edges x y ≡ contact_in past (map (edge_after merge) graph.edges) x y

-- The merges are of reciprocal pairs of the graph, one after another in any order, until no pair is
-- reciprocal; `last` is the graph after them.
abbrev pub SettlesInto : Threshold → ℕ → RegionGraph → List Merge → RegionGraph → Type 0
SettlesInto t faces graph [] last = (graph ≡ last) × ((e : GraphEdge) → ¬ (IsReciprocalEdge t faces graph e))
SettlesInto t faces graph (merge ∷ merges) last = IsReciprocalEdge t faces graph (edge_of merge)
    × ((next : RegionGraph) × IsGraphAfter graph merge next × SettlesInto t faces next merges last)

-- the region is held back, or one of its edges reaches the threshold
abbrev pub IsLeft : Threshold → ℕ → RegionGraph → Region → Type 0
IsLeft t faces graph r = IsHeldBack faces r
    ⊎ ((e : GraphEdge) × Contains graph.edges e × IsAt r.name e × Reaches t e.contact)

-- what is left of a settled graph: the regions that a merge may still take, and the edges among them
pub record IsLeftOf (t : Threshold) (faces : ℕ) (last left : RegionGraph) : Type 0 where
  pub graph_is : IsGraph left
  pub regions : (r : Region) → Contains left.regions r ↔ (Contains last.regions r × IsLeft t faces last r)
  pub edges : (e : GraphEdge) → Contains left.edges e
      ↔ (Contains last.edges e × HasRegion left e.a × HasRegion left e.b)

-- the graph was settled by these merges, and this is left of it
pub record Settles (t : Threshold) (faces : ℕ) (graph : RegionGraph) (merges : List Merge) (left : RegionGraph) : Type 0 where
  pub last : RegionGraph
  pub settled : SettlesInto t faces graph merges last
  pub left_is : IsLeftOf t faces last left
