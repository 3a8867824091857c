-- The edges of the grid that cross from child to child of a node, and their contacts.
use Rattle.std.specs.Prelude.{ℕ, ◌+◌, min, Bool, ◌&&◌, List, slice_index, slice_set}
use Rattle.agglo_model.specs.Grid.{Grid}
use Rattle.agglo_model.specs.PairOrder.{Contact}
use Rattle.agglo_model.specs.Contacts.{joins, total}
use Rattle.agglo_model.specs.Cutting.{Chunking}
use Rattle.agglo_model.specs.RegionGraph.{Region, GraphEdge}
use Rattle.agglo_model.specs.Joining.{is_crossing, is_named}

-- the contact of two names by the edges that cross from child to child of node m
abbrev pub across : Grid → Chunking → ℕ → List ℕ → ℕ → ℕ → Contact
across g c m labels x y = total g (λ e. joins g labels x y e && is_crossing c m e)

-- both names of an edge are those of regions
abbrev pub are_named : List Region → GraphEdge → Bool
are_named regions e = is_named regions e.a && is_named regions e.b

-- the low and the high corner of the layer of a box at one coordinate of an axis, which is empty where the box ends
abbrev pub layer_from : List ℕ → ℕ → ℕ → List ℕ
layer_from lo axis plane = slice_set lo axis plane

abbrev pub layer_to : List ℕ → ℕ → ℕ → List ℕ
layer_to hi axis plane = slice_set hi axis (min (plane + 1) (slice_index hi axis))
