-- The region graph of a node that is no leaf, made of those that its children passed on.
use Rattle.std.specs.Prelude.{◌≡◌, ◌≢◌, ℕ, ◌+◌, ◌-◌, ◌==◌, ◌↔◌, not, Bool, ◌&&◌, IsTrue, if◌then◌else◌, List, [], ◌∷◌, ◌++◌, fold, map, filter, count_by, Contains, bit_and, bit_or}
use Rattle.std.specs.List.{flat_map, list_any}
use Rattle.agglo_model.specs.Axes.{is_edge, lower_end, higher_end}
use Rattle.agglo_model.specs.Grid.{Grid}
use Rattle.agglo_model.specs.PairOrder.{Contact, added}
use Rattle.agglo_model.specs.Contacts.{edge_numbers, joins, total}
use Rattle.agglo_model.specs.Cutting.{Chunking, level_of, node_at, cell_low, cell_high, is_low_artificial, is_high_artificial, face_bits, child}
use Rattle.agglo_model.specs.Freezing.{is_inside}
use Rattle.agglo_model.specs.RegionGraph.{Region, GraphEdge, RegionGraph, IsGraph, contact_in, no_contact}

-- e lies in the cell of node m, and its ends in the cells of two of its children
abbrev pub is_crossing : Chunking → ℕ → ℕ → Bool
is_crossing c m e = is_inside c m e
    && not (node_at c (level_of c m - 1) (lower_end c.axes e) == node_at c (level_of c m - 1) (higher_end e))

-- a contact, or none with a tie past all numbers
abbrev pub or_none : ℕ → Contact → Contact
or_none past contact = if contact.count == 0 then no_contact past else contact

-- the contact of two names by the edges that cross a face between two children of node m
abbrev pub between_children : ℕ → Grid → Chunking → ℕ → List ℕ → ℕ → ℕ → Contact
between_children past g c m labels x y = or_none past (total g (λ e. joins g labels x y e && is_crossing c m e))

-- how many edges of the grid lie inside the cell of node m
abbrev pub edges_inside : Grid → Chunking → ℕ → ℕ
edges_inside g c m = count_by (λ e. is_edge g.axes e && is_inside c m e) (edge_numbers g)

-- the faces of a child that are kept: those that lie on an artificial face of its parent
abbrev pub kept_faces : Chunking → ℕ → ℕ → ℕ
kept_faces c m kid = face_bits
    (λ axis. is_low_artificial c m axis && cell_low c kid axis == cell_low c m axis)
    (λ axis. is_high_artificial c m axis && cell_high c kid axis == cell_high c m axis)

-- some region of the list has the name x
abbrev pub is_named : List Region → ℕ → Bool
is_named regions x = list_any (λ r. r.name == x) regions

-- what a region of a child becomes
abbrev pub kept_region : Chunking → ℕ → ℕ → Region → Region
kept_region c m kid r = record r { faces = bit_and r.faces (kept_faces c m kid) }

-- the regions of the children from number i on, with the faces that are kept, and their edges
abbrev pub kept_regions : Chunking → ℕ → ℕ → List RegionGraph → List Region
kept_regions c m i [] = []
kept_regions c m i (kid ∷ kids) = map (kept_region c m (child c m i)) kid.regions ++ kept_regions c m (i + 1) kids

abbrev pub kept_edges : List RegionGraph → List GraphEdge
kept_edges kids = flat_map (λ kid. kid.edges) kids

-- the faces of all regions of the name x together
abbrev pub joined_faces : List Region → ℕ → ℕ
joined_faces regions x = fold bit_or 0 (map (λ r. r.faces) (filter (λ r. r.name == x) regions))

-- The graph of node m from the residues of its children, in order: the names of all of them, each with the
-- faces that are kept; for each two of these names the contacts of the children added up, with the contact
-- edges across the faces between children.
pub record IsJoined (g : Grid) (c : Chunking) (m : ℕ) (labels : List ℕ) (kids : List RegionGraph) (graph : RegionGraph) : Type 0 where
  pub graph_is : IsGraph graph
  pub regions : (r : Region) → Contains graph.regions r
      ↔ (IsTrue (is_named (kept_regions c m 0 kids) r.name) × (r.faces ≡ joined_faces (kept_regions c m 0 kids) r.name))
  pub contacts : (past x y : ℕ) → x ≢ y → contact_in past graph.edges x y
      ≡ (if is_named (kept_regions c m 0 kids) x && is_named (kept_regions c m 0 kids) y
      then added (contact_in past (kept_edges kids) x y) (between_children past g c m labels x y)
      else no_contact past)
