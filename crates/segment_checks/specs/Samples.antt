-- Graphs given by plain numbers, for tests.
use Rattle.std.specs.Prelude.{ℕ, nat_lt, nat_le, Bool, true, ◌==◌, ◌&&◌, ◌||◌, List, [], ◌∷◌, map, sum_by}
use Rattle.std.specs.List.{list_all, list_any}
use Rattle.agglo_model.specs.PairOrder.{most_edges}
use Rattle.agglo_model.specs.RegionGraph.{Region, GraphEdge}

-- a region by its name and its faces
abbrev pub sample_region : ℕ × ℕ → Region
sample_region r = record { name = r.0; faces = r.1 }

-- an edge by its names, and by the sum, the count and the tie of its contact
abbrev pub sample_edge : ℕ × ℕ × ℕ × ℕ × ℕ → GraphEdge
sample_edge e = record { a = e.0; b = e.1; contact = record { sum = e.2; count = e.3; tie = e.4 } }

-- regions by ascending name, edges in order
abbrev pub regions_test : List Region → Bool
regions_test [] = true
regions_test (r ∷ rs) = list_all (λ s. nat_lt r.name s.name) rs && regions_test rs

abbrev pub edges_test : List GraphEdge → Bool
edges_test [] = true
edges_test (e ∷ es) =
    list_all (λ f. nat_lt e.a f.a || (e.a == f.a && nat_lt e.b f.b)) es && edges_test es

-- the edge is between two regions, in order, and has some edge of the grid
abbrev pub edge_test : List Region → GraphEdge → Bool
edge_test rs e = (nat_lt e.a e.b && nat_lt 0 e.contact.count)
    && (list_any (λ r. r.name == e.a) rs && list_any (λ r. r.name == e.b) rs)

-- the numbers are those of a graph
abbrev pub graph_test : List (ℕ × ℕ) → List (ℕ × ℕ × ℕ × ℕ × ℕ) → Bool
graph_test regions edges =
    let rs = map sample_region regions in
    let es = map sample_edge edges in
    (regions_test rs && edges_test es)
    && (list_all (edge_test rs) es && nat_le (sum_by (λ e. e.contact.count) es) most_edges)
