-- What a list of merges makes of a label.
use Rattle.std.specs.Prelude.{◌≡◌, ℕ, ◌^◌, ◌<◌, ◌≤◌, ◌==◌, nat_lt, if◌then◌else◌, List, length, fold, slice_index, All}
use Rattle.agglo_model.specs.Greedy.{Merge}

-- both names can be labels
pub record HasSmallNames (m : Merge) : Type 0 where
  pub survivor : m.survivor ≤ 2 ^ 28
  pub absorbed : m.absorbed ≤ 2 ^ 28

-- both names are below a limit
pub record NamesBelow (limit : ℕ) (m : Merge) : Type 0 where
  pub survivor : m.survivor < limit
  pub absorbed : m.absorbed < limit

-- what a merge makes of a label
abbrev pub renamed_by : ℕ → Merge → ℕ
renamed_by x m = if x == m.absorbed then m.survivor else x

-- what the merges make of a label, one after another
abbrev pub final_name : List Merge → ℕ → ℕ
final_name merges x = fold renamed_by x merges

-- what a list of names makes of a label: those that are not in it stay
abbrev pub final_label : List ℕ → ℕ → ℕ
final_label names x = if nat_lt x (length names) then slice_index names x else x

-- the list has the final name of each label up to the greatest that a merge changes, and names that
-- can be labels
pub record HoldsFinalNames (merges : List Merge) (names : List ℕ) : Type 0 where
  pub finals : (x : ℕ) → final_label names x ≡ final_name merges x
  pub fit : All (λ name. name ≤ 2 ^ 28) names
