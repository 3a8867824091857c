-- Boxes of voxels, rows of them, and the names and edges that are found there.
use Rattle.std.specs.Prelude.{◌≡◌, ◌≢◌, ℕ, ◌+◌, ◌-◌, ◌*◌, ◌/◌, ◌%◌, ◌^◌, ◌<◌, ◌≤◌, ◌==◌, max, length, nat_lt, nat_le, Bool, ◌&&◌, ◌||◌, if◌then◌else◌, List, slice_index, slice_set, bit_or}
use Rattle.std.specs.List.{list_any, range_with_len}
use Rattle.agglo_model.specs.Axes.{Axes, voxel_count, edge_count, coordinate}
use Rattle.agglo_model.specs.Basins.{label_of}
use Rattle.agglo_model.specs.Cutting.{length_on}
use Rattle.agglo_model.specs.Grid.{Grid}
use Rattle.agglo_model.specs.Joining.{is_named, joined_faces}
use Rattle.agglo_model.specs.PairOrder.{added}
use Rattle.agglo_model.specs.Contacts.{joins, total}
use Rattle.agglo_model.specs.RegionGraph.{Region, GraphEdge, contact_in}
use Rattle.region_graph.specs.Lists.{AreNamed, AreOrdered}

-- the coordinate of voxel v on an axis is in the box's range there
abbrev pub in_span : Axes → List ℕ → List ℕ → ℕ → ℕ → Bool
in_span a lo hi v axis =
    nat_le (slice_index lo axis) (coordinate a v axis) && nat_lt (coordinate a v axis) (slice_index hi axis)

-- voxel v lies in the box from `lo` up to, but not including, `hi`
abbrev pub in_box : Axes → List ℕ → List ℕ → ℕ → Bool
in_box a lo hi v = nat_lt v (voxel_count a)
    && (in_span a lo hi v 0 && (in_span a lo hi v 1 && in_span a lo hi v 2))

-- voxel v is one of those from `from` up to, but not including, `to`
abbrev pub in_run : ℕ → ℕ → ℕ → Bool
in_run from to v = nat_le from v && nat_lt v to

-- a box of the volume, which may be empty: on each axis it ends in the volume, and begins no later
pub record IsBox (a : Axes) (lo hi : List ℕ) : Type 0 where
  pub from_x : slice_index lo 0 ≤ slice_index hi 0
  pub from_y : slice_index lo 1 ≤ slice_index hi 1
  pub from_z : slice_index lo 2 ≤ slice_index hi 2
  pub most_x : slice_index hi 0 ≤ a.nx
  pub most_y : slice_index hi 1 ≤ a.ny
  pub most_z : slice_index hi 2 ≤ a.nz

-- some voxel that passes the test has the name x
abbrev pub name_among : Axes → List ℕ → (ℕ → Bool) → ℕ → Bool
name_among a labels test x = list_any (λ v. test v && label_of labels v == x) (range_with_len 0 (voxel_count a))

-- e is the number of an edge on this axis whose higher end passes the test
abbrev pub ends_among : ℕ → (ℕ → Bool) → ℕ → Bool
ends_among axis test e = e % 3 == axis && test (e / 3)

-- the names of the voxels that pass the test were added to the list, with these faces
pub record GainsNames (a : Axes) (labels : List ℕ) (test : ℕ → Bool) (faces : ℕ) (before after : List Region) : Type 0 where
  pub named : AreNamed before → AreNamed after
  pub names : (x : ℕ) → x ≢ 0 → is_named after x ≡ (is_named before x || name_among a labels test x)
  pub with_faces : (x : ℕ) → x ≢ 0 → joined_faces after x
      ≡ (if name_among a labels test x then bit_or (joined_faces before x) faces else joined_faces before x)

-- the contacts of the edges that pass the test were added to the list
pub record GainsContacts (g : Grid) (labels : List ℕ) (test : ℕ → Bool) (before after : List GraphEdge) : Type 0 where
  pub ordered : AreOrdered before → AreOrdered after
  pub contacts : (x y : ℕ) → contact_in (edge_count g.axes) after x y
      ≡ added (contact_in (edge_count g.axes) before x y) (total g (λ e. joins g labels x y e && test e))

-- a box of the volume with some voxel
pub record IsSomeBox (a : Axes) (lo hi : List ℕ) : Type 0 where
  pub some : (axis : ℕ) → axis < 3 → slice_index lo axis < slice_index hi axis
  pub most : (axis : ℕ) → axis < 3 → slice_index hi axis ≤ length_on a axis

-- how many voxels a box has
abbrev pub volume_of : List ℕ → List ℕ → ℕ
volume_of lo hi = (slice_index hi 0 - slice_index lo 0)
    * ((slice_index hi 1 - slice_index lo 1) * (slice_index hi 2 - slice_index lo 2))

-- a box of the volume with some voxel, as a part of a larger one with this low corner
pub record IsBlock (a : Axes) (outer_lo lo hi : List ℕ) : Type 0 where
  pub box : IsSomeBox a lo hi
  pub outer_low : (axis : ℕ) → axis < 3 → slice_index outer_lo axis ≤ slice_index lo axis
  pub lo_three : length lo ≡ 3
  pub hi_three : length hi ≡ 3

-- the low corner of those voxels of a block that have a voxel below them on an axis in the larger box
abbrev pub raised_low : List ℕ → List ℕ → ℕ → List ℕ
raised_low outer_lo lo axis = slice_set lo axis (max (slice_index lo axis) (slice_index outer_lo axis + 1))

-- e is the number of an edge whose higher end lies in a block, and its lower end in the larger box
abbrev pub ends_above : Axes → List ℕ → List ℕ → List ℕ → ℕ → Bool
ends_above a outer_lo lo hi e =
    nat_lt (slice_index outer_lo (e % 3)) (coordinate a (e / 3) (e % 3)) && in_box a lo hi (e / 3)

-- the low corner of a box without its lowest layer on an axis
abbrev pub above_lowest : List ℕ → ℕ → List ℕ
above_lowest lo axis = slice_set lo axis (slice_index lo axis + 1)

-- the high corner of its lowest layer on an axis, and the low corner of its highest one
abbrev pub lowest_to : List ℕ → List ℕ → ℕ → List ℕ
lowest_to lo hi axis = slice_set hi axis (slice_index lo axis + 1)

abbrev pub highest_from : List ℕ → List ℕ → ℕ → List ℕ
highest_from lo hi axis = slice_set lo axis (slice_index hi axis - 1)

-- the names at the low face of a box on an axis were added, with a bit for that face, and then those at the
-- high face, with the next bit, each if the face is not on the volume's border
pub record GainsFaces (a : Axes) (labels lo hi : List ℕ) (axis : ℕ) (before after : List Region) : Type 0 where
  pub between : List Region
  pub low : GainsNames a labels (λ v. nat_lt 0 (slice_index lo axis) && in_box a lo (lowest_to lo hi axis) v)
      (4 ^ axis) before between
  pub high : GainsNames a labels (λ v. nat_lt (slice_index hi axis) (length_on a axis) && in_box a (highest_from lo hi axis) hi v)
      (2 * 4 ^ axis) between after
