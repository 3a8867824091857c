-- The contact of two names of a label list, taken over the whole volume.
use Rattle.std.specs.Prelude.{ℕ, ◌<◌, ◌==◌, nat_lt, Bool, not, ◌&&◌, ◌||◌, if◌then◌else◌, List, map, sum_by, count_by}
use Rattle.std.specs.List.{range_with_len, position_or_len}
use Rattle.agglo_model.specs.Axes.{edge_count, is_edge, lower_end, higher_end}
use Rattle.agglo_model.specs.Grid.{Grid, affinity}
use Rattle.agglo_model.specs.Basins.{label_of}
use Rattle.agglo_model.specs.PairOrder.{Contact}

-- all edge numbers of a volume, in ascending order
abbrev pub edge_numbers : Grid → List ℕ
edge_numbers g = range_with_len 0 (edge_count g.axes)

-- what the edges that pass a test make together: the sum of their affinities, how many they are, and
-- the least of them, or the first number past all edges where none passes
unfoldable pub total : Grid → (ℕ → Bool) → Contact
total g passes = record {
  sum = sum_by (λ e. if passes e then affinity g e else 0) (edge_numbers g);
  count = count_by passes (edge_numbers g);
  tie = position_or_len passes (edge_numbers g);
}

-- two labels differ, and neither is background
abbrev pub differ : ℕ → ℕ → Bool
differ x y = not (x == y) && (nat_lt 0 x && nat_lt 0 y)

-- the labels x and y are a and b, in this order or the other
abbrev pub are : ℕ → ℕ → ℕ → ℕ → Bool
are x y a b = (x == a && y == b) || (x == b && y == a)

-- the labels at the two ends of an edge
abbrev pub lower_label : Grid → List ℕ → ℕ → ℕ
lower_label g labels e = label_of labels (lower_end g.axes e)

abbrev pub higher_label : Grid → List ℕ → ℕ → ℕ
higher_label g labels e = label_of labels (higher_end e)

-- e is a contact edge: it joins voxels of two different names, however weak it is
abbrev pub is_contact_edge : Grid → List ℕ → ℕ → Bool
is_contact_edge g labels e =
    is_edge g.axes e && differ (lower_label g labels e) (higher_label g labels e)

-- e is a contact edge between the names a and b
abbrev pub joins : Grid → List ℕ → ℕ → ℕ → ℕ → Bool
joins g labels a b e =
    is_contact_edge g labels e && are (lower_label g labels e) (higher_label g labels e) a b

-- the contact of the names a and b: all contact edges between them
abbrev pub between : Grid → List ℕ → ℕ → ℕ → Contact
between g labels a b = total g (joins g labels a b)

-- the names a and b touch: some contact edge is between them
abbrev pub InContact : Grid → List ℕ → ℕ → ℕ → Type 0
InContact g labels a b = 0 < (between g labels a b).count

-- the labels after every voxel of one name has taken another
abbrev pub renamed : List ℕ → ℕ → ℕ → List ℕ
renamed labels survivor absorbed = map (λ x. if x == absorbed then survivor else x) labels
