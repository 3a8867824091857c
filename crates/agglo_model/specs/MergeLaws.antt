-- What merging is like over whole runs: the order of reciprocal merges doesn't matter.
use Rattle.std.specs.Prelude.{◌≡◌, ◌≢◌, ℕ, ◌<◌, ◌≤◌, ◌⊎◌, List, length, All, IsPermutation}
use Rattle.std.specs.List.{AllAdjacentBelow}
use Rattle.agglo_model.specs.Axes.{voxel_count}
use Rattle.agglo_model.specs.Grid.{Grid}
use Rattle.agglo_model.specs.PairOrder.{Threshold}
use Rattle.agglo_model.specs.Contacts.{between, renamed}
use Rattle.agglo_model.specs.Greedy.{Merge, RanksFirst, IsMutual, IsMutualRun, IsGreedyRun, after_merges}
use Rattle.agglo_model.specs.MergeTree.{AreLawful}

-- Two reciprocal pairs share no name. After the merge of a and b the pair of c and d is still
-- reciprocal, with the same contact, and the two merges give the same labels in either order.
pub record IsDiamond (g : Grid) (t : Threshold) (labels : List ℕ) (a b c d : ℕ) : Type 0 where
  pub apart : (c ≢ a) × (c ≢ b) × (d ≢ a) × (d ≢ b)
  pub still_mutual : IsMutual g t (renamed labels a b) c d
  pub same_contact : between g (renamed labels a b) c d ≡ between g labels c d
  pub either_order : renamed (renamed labels a b) c d ≡ renamed (renamed labels c d) a b

abbrev pub Diamond : Type 0
Diamond = (g : Grid) (t : Threshold) (labels : List ℕ) (a b c d : ℕ)
    → IsMutual g t labels a b → IsMutual g t labels c d → (c ≢ a) ⊎ (d ≢ b)
    → IsDiamond g t labels a b c d

-- each contact comes before that of the next merge
abbrev pub AreFalling : List Merge → Type 0
AreFalling merges = AllAdjacentBelow RanksFirst merges (length merges)

abbrev pub GreedyFalls : Type 0
GreedyFalls = (g : Grid) (t : Threshold) (labels : List ℕ) (merges : List Merge)
    → IsGreedyRun g t labels merges → AreFalling merges

-- two runs give the same labels, by the same merges in some order
pub record SameOutcome (labels : List ℕ) (merges others : List Merge) : Type 0 where
  pub same_labels : after_merges labels merges ≡ after_merges labels others
  pub same_merges : IsPermutation merges others

-- Merging reciprocal pairs in whatever order, until none is left, is greedy agglomeration.
abbrev pub AnyOrder : Type 0
AnyOrder = (g : Grid) (t : Threshold) (labels : List ℕ) (merges greedy : List Merge)
    → IsMutualRun g t labels merges → IsGreedyRun g t labels greedy
    → SameOutcome labels merges greedy

-- The merges of any such run, put into pair order, are a greedy run.
abbrev pub SortedIsGreedy : Type 0
SortedIsGreedy = (g : Grid) (t : Threshold) (labels : List ℕ) (merges sorted : List Merge)
    → IsMutualRun g t labels merges → IsPermutation merges sorted → AreFalling sorted
    → IsGreedyRun g t labels sorted × (after_merges labels merges ≡ after_merges labels sorted)

-- From any labels there is a greedy run.
abbrev pub GreedyRunsExist : Type 0
GreedyRunsExist = (g : Grid) (t : Threshold) (labels : List ℕ) → (merges : List Merge) × IsGreedyRun g t labels merges

-- And there is one alone: two have the same merges, and end in the same labels.
abbrev pub OneGreedyRun : Type 0
OneGreedyRun = (g : Grid) (t : Threshold) (labels : List ℕ) (merges others : List Merge)
    → IsGreedyRun g t labels merges → IsGreedyRun g t labels others
    → (merges ≡ others) × (after_merges labels merges ≡ after_merges labels others)

-- The merges of greedy agglomeration are a lawful list, where labels are no greater than the number of
-- voxels and affinities are bytes.
abbrev pub GreedyIsLawful : Type 0
GreedyIsLawful = (g : Grid) (t : Threshold) (labels : List ℕ) (merges : List Merge)
    → 0 < voxel_count g.axes → All (λ b. b ≤ 255) g.bytes → All (λ x. x ≤ voxel_count g.axes) labels
    → IsGreedyRun g t labels merges → AreLawful g.axes t merges
