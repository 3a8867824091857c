-- The names that a list of merges absorbed, as a table.
use Rattle.std.specs.Prelude.{◌≡◌, ℕ, ◌+◌, ◌<◌, nat_lt, nat_le, Bool, true, not, ◌&&◌, List, length, slice_index_or}
use Rattle.agglo_model.specs.Axes.{Axes, voxel_count}
use Rattle.agglo_model.specs.Greedy.{Merge}
use Rattle.agglo_model.specs.TreeFile.{is_alive}

-- for each name up to the greatest the table says whether one of the merges absorbed it
pub record MarksAbsorbed (greatest : ℕ) (merges : List Merge) (table : List Bool) : Type 0 where
  pub one_each : length table ≡ greatest + 1
  pub marks : (name : ℕ) → name < length table → slice_index_or table name true ≡ not (is_alive merges name)

-- the survivor is the smaller of two names that voxels can have, and neither is marked
abbrev pub has_unmarked_names : Axes → List Bool → Merge → Bool
has_unmarked_names axes table m =
    nat_lt 0 m.survivor && (nat_lt m.survivor m.absorbed && (nat_le m.absorbed (voxel_count axes)
    && (not (slice_index_or table m.survivor true) && not (slice_index_or table m.absorbed true))))
