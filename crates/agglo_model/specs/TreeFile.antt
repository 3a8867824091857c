-- A merge tree, what is wrong with a list of bytes as a tree file, and the tree that other bytes hold.
use Rattle.std.specs.Prelude.{ℕ, ◌+◌, ◌*◌, ◌-◌, ◌<◌, ◌==◌, nat_lt, nat_le, nat_eq, Bool, not, ◌&&◌, ◌||◌, if◌then◌else◌, List, [], ◌∷◌, ◌++◌, length, take, map, slice_index_or, Option, Some, None}
use Rattle.std.specs.List.{starts_with, list_all, range_with_len}
use Rattle.std.specs.Option.{option_map, option_or}
use Rattle.agglo_model.specs.Axes.{Axes, AxesFlaw, IsWithinLimits, axes_flaw, voxel_count, edge_count}
use Rattle.agglo_model.specs.PairOrder.{Contact, Threshold}
use Rattle.agglo_model.specs.Greedy.{Merge}
use Rattle.agglo_model.specs.MergeTree.{AreLawful, tree_file, tree_magic}
use Rattle.agglo_model.specs.VolumeFile.{u32_at, header_length, header_axes, body}
use Rattle.agglo_model.specs.Numbers.{u64_at}

-- the merges of a volume, by its axes and the threshold that they were made with
pub record MergeTree : Type 0 where
  pub axes : Axes
  pub threshold : Threshold
  pub merges : List Merge

-- the axes are within the limits, the threshold is a fraction, and the merges are lawful
pub record IsMergeTree (tree : MergeTree) : Type 0 where
  pub limits : IsWithinLimits tree.axes
  pub fraction : 0 < tree.threshold.q
  pub lawful : AreLawful tree.axes tree.threshold tree.merges

-- its tree file
abbrev pub tree_bytes : MergeTree → List ℕ
tree_bytes tree = tree_file tree.axes tree.threshold tree.merges

-- the header is the first 32 bytes; what follows it is the body
abbrev pub header : List ℕ → List ℕ
header bytes = take header_length bytes

-- in a header the threshold stands at offset 20, after the axes, and the number of merges at 28
abbrev pub header_threshold : List ℕ → Threshold
header_threshold bytes = record { p = u32_at 20 bytes; q = u32_at 24 bytes }

abbrev pub header_merges : List ℕ → ℕ
header_merges bytes = u32_at 28 bytes

-- the body has a record of 32 bytes for each merge; the record from offset k
abbrev pub record_length : ℕ
record_length = 32

abbrev pub merge_at : ℕ → List ℕ → Merge
merge_at k bytes = record {
  survivor = u32_at k bytes;
  absorbed = u32_at (k + 4) bytes;
  contact = record { sum = u64_at (k + 8) bytes; count = u64_at (k + 16) bytes; tie = u64_at (k + 24) bytes };
}

-- the first n records of a body
unfoldable pub merges_in : ℕ → List ℕ → List Merge
merges_in n bytes = map (λ i. merge_at (record_length * i) bytes) (range_with_len 0 n)

-- the tree that a list of bytes without a flaw holds
abbrev pub tree_in : List ℕ → MergeTree
tree_in bytes = record {
  axes = header_axes (header bytes);
  threshold = header_threshold (header bytes);
  merges = merges_in (header_merges (header bytes)) (body bytes);
}

-- what is wrong with a list of bytes as a tree file; the last four name a record by its number
pub data TreeFlaw : Type 0 where
  ShortHeader : (got : ℕ) → TreeFlaw
  Magic : TreeFlaw
  BadAxes : AxesFlaw → TreeFlaw
  Denominator : TreeFlaw
  Count : (merges : ℕ) → TreeFlaw
  Truncated : (got : ℕ) → TreeFlaw
  Trailing : TreeFlaw
  BadNames : (i : ℕ) → TreeFlaw
  BadContact : (i : ℕ) → TreeFlaw
  Order : (i : ℕ) → TreeFlaw
  Below : (i : ℕ) → TreeFlaw

-- the first that holds of the numbers after the axes: the denominator is 0; there are as many merges as
-- voxels, or more
abbrev pub counts_flaw : List ℕ → Option TreeFlaw
counts_flaw bytes =
    if (header_threshold bytes).q == 0 then Some Denominator
    else (if nat_lt (header_merges bytes) (voxel_count (header_axes bytes)) then None
    else Some (Count (header_merges bytes)))

-- the first that holds of a header, or of what there is of it
unfoldable pub header_flaw : List ℕ → Option TreeFlaw
header_flaw bytes =
    if nat_lt (length bytes) header_length then Some (ShortHeader (length bytes))
    else (if starts_with nat_eq bytes tree_magic then
    option_or (option_map BadAxes (axes_flaw (header_axes bytes))) (counts_flaw bytes)
    else Some Magic)

-- none of these merges absorbed the name
unfoldable pub is_alive : List Merge → ℕ → Bool
is_alive earlier name = list_all (λ m. not (m.absorbed == name)) earlier

-- the survivor is the smaller of two names that voxels can have, and both are alive
abbrev pub has_names : Axes → List Merge → Merge → Bool
has_names axes earlier m =
    nat_lt 0 m.survivor && (nat_lt m.survivor m.absorbed && (nat_le m.absorbed (voxel_count axes)
    && (is_alive earlier m.survivor && is_alive earlier m.absorbed)))

-- the three numbers can be those of a contact in a volume of these axes
abbrev pub has_numbers : Axes → Contact → Bool
has_numbers axes c =
    nat_lt 0 c.count && (nat_le c.count (edge_count axes) && (nat_le c.sum (255 * c.count)
    && nat_lt c.tie (edge_count axes)))

-- c comes before d in pair order
abbrev pub comes_before : Contact → Contact → Bool
comes_before c d = nat_lt (d.sum * c.count) (c.sum * d.count)
    || (c.sum * d.count == d.sum * c.count && nat_lt c.tie d.tie)

-- the last of the earlier merges comes before this one, or there is none
abbrev pub follows : List Merge → Merge → Bool
follows earlier m = length earlier == 0
    || comes_before (slice_index_or earlier (length earlier - 1) m).contact m.contact

-- the mean is at least the threshold
abbrev pub reaches : Threshold → Contact → Bool
reaches t c = nat_le (t.p * c.count) (c.sum * t.q)

-- the first that holds of a record after these earlier ones
unfoldable pub record_flaw : Axes → Threshold → List Merge → Merge → Option TreeFlaw
record_flaw axes t earlier m =
    if has_names axes earlier m then
    (if has_numbers axes m.contact then
    (if follows earlier m then
    (if reaches t m.contact then None
    else Some (Below (length earlier)))
    else Some (Order (length earlier)))
    else Some (BadContact (length earlier)))
    else Some (BadNames (length earlier))

-- the first that holds of these records, one after another, after the earlier ones
abbrev pub records_flaw : Axes → Threshold → List Merge → List Merge → Option TreeFlaw
records_flaw axes t earlier [] = None
records_flaw axes t earlier (m ∷ merges) =
    option_or (record_flaw axes t earlier m) (records_flaw axes t (earlier ++ m ∷ []) merges)

-- the first that holds of a body of n records
unfoldable pub body_flaw : Axes → Threshold → ℕ → List ℕ → Option TreeFlaw
body_flaw axes t n bytes =
    if nat_lt (length bytes) (record_length * n) then Some (Truncated (length bytes))
    else (if nat_lt (record_length * n) (length bytes) then Some Trailing
    else records_flaw axes t [] (merges_in n bytes))

-- the first that holds of the whole list; none where the list is a whole tree file
abbrev pub tree_flaw : List ℕ → Option TreeFlaw
tree_flaw bytes =
    let first = header bytes in
    option_or (header_flaw first)
    (body_flaw (header_axes first) (header_threshold first) (header_merges first) (body bytes))
