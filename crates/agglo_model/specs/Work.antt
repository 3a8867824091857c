-- What the nodes of a cut volume do: each merges the reciprocal pairs that it may decide on.
use Rattle.std.specs.Prelude.{◌≡◌, ◌≢◌, ℕ, suc, ◌+◌, ◌≤◌, ◌⊎◌, IsTrue, List, [], ◌∷◌, length, take, slice_index_or}
use Rattle.std.specs.List.{flat_map}
use Rattle.agglo_model.specs.Grid.{Grid}
use Rattle.agglo_model.specs.PairOrder.{Threshold, Before, Reaches}
use Rattle.agglo_model.specs.Contacts.{between, InContact}
use Rattle.agglo_model.specs.Greedy.{Merge, IsMutual, after_merge, after_merges}
use Rattle.agglo_model.specs.Cutting.{Chunking, node_count}
use Rattle.agglo_model.specs.Freezing.{occurs_in, IsFrozen}

-- the name x occurs in the cell of node m and isn't frozen there
pub record IsFree (c : Chunking) (m : ℕ) (labels : List ℕ) (x : ℕ) : Type 0 where
  pub occurs : IsTrue (occurs_in c m labels x)
  pub unfrozen : ¬ (IsFrozen c m labels x)

-- a and b are reciprocal in the whole volume, and free in node m
pub record IsReciprocal (g : Grid) (t : Threshold) (c : Chunking) (m : ℕ) (labels : List ℕ) (a b : ℕ) : Type 0 where
  pub pair : IsMutual g t labels a b
  pub a_free : IsFree c m labels a
  pub b_free : IsFree c m labels b

-- the merge is that of a reciprocal pair of node m, with its contact
pub record IsNodeStep (g : Grid) (t : Threshold) (c : Chunking) (m : ℕ) (labels : List ℕ) (step : Merge) : Type 0 where
  pub reciprocal : IsReciprocal g t c m labels step.survivor step.absorbed
  pub contact_is : step.contact ≡ between g labels step.survivor step.absorbed

-- the work of node m: merges of reciprocal pairs of the node, one after another in any order, until
-- there is no such pair
abbrev pub IsWork : Grid → Threshold → Chunking → ℕ → List ℕ → List Merge → Type 0
IsWork g t c m labels [] = (a b : ℕ) → ¬ (IsReciprocal g t c m labels a b)
IsWork g t c m labels (step ∷ steps) =
    IsNodeStep g t c m labels step × IsWork g t c m (after_merge labels step) steps

-- the merge is that of the first reciprocal pair of node m
pub record IsFirstNodeStep (g : Grid) (t : Threshold) (c : Chunking) (m : ℕ) (labels : List ℕ) (step : Merge) : Type 0 where
  pub step_is : IsNodeStep g t c m labels step
  pub first : (a b : ℕ) → IsReciprocal g t c m labels a b → (a ≢ step.survivor) ⊎ (b ≢ step.absorbed)
      → Before step.contact (between g labels a b)

-- the work of node m in pair order: the first reciprocal pair each time
abbrev pub IsOrderedWork : Grid → Threshold → Chunking → ℕ → List ℕ → List Merge → Type 0
IsOrderedWork g t c m labels [] = (a b : ℕ) → ¬ (IsReciprocal g t c m labels a b)
IsOrderedWork g t c m labels (step ∷ steps) =
    IsFirstNodeStep g t c m labels step × IsOrderedWork g t c m (after_merge labels step) steps

-- the works of the nodes from m on, each on the labels that the one before left
abbrev pub AreWorksFrom : Grid → Threshold → Chunking → ℕ → List ℕ → List (List Merge) → Type 0
AreWorksFrom g t c m labels [] = Unit {0}
AreWorksFrom g t c m labels (work ∷ works) =
    IsWork g t c m labels work × AreWorksFrom g t c (suc m) (after_merges labels work) works

-- all merges of several works, in order
abbrev pub all_merges : List (List Merge) → List Merge
all_merges works = flat_map (λ work. work) works

-- the work of node m, the labels before and after it, and those after its first k merges
abbrev pub work_of : List (List Merge) → ℕ → List Merge
work_of works m = slice_index_or works m []

abbrev pub labels_before : List ℕ → List (List Merge) → ℕ → List ℕ
labels_before labels works m = after_merges labels (all_merges (take m works))

abbrev pub labels_after : List ℕ → List (List Merge) → ℕ → List ℕ
labels_after labels works m = labels_before labels works (m + 1)

abbrev pub labels_within : List ℕ → List (List Merge) → ℕ → ℕ → List ℕ
labels_within labels works m k = after_merges (labels_before labels works m) (take k (work_of works m))

-- the works of the first nodes in ascending number, from these labels on, as far as they were done
pub record AreFirstWorks (g : Grid) (t : Threshold) (c : Chunking) (labels : List ℕ) (works : List (List Merge)) : Type 0 where
  pub few : length works ≤ node_count c
  pub worked : AreWorksFrom g t c 0 labels works

-- the works of all nodes
pub record AreWorks (g : Grid) (t : Threshold) (c : Chunking) (labels : List ℕ) (works : List (List Merge)) : Type 0 where
  pub one_each : length works ≡ node_count c
  pub worked : AreWorksFrom g t c 0 labels works

-- y is the first partner of x in the whole volume
pub record IsFirstPartner (g : Grid) (labels : List ℕ) (x y : ℕ) : Type 0 where
  pub touching : InContact g labels x y
  pub first : (z : ℕ) → z ≢ y → InContact g labels x z → Before (between g labels x y) (between g labels x z)

-- the first pair of the name x reaches the threshold
abbrev pub FirstPairReaches : Grid → Threshold → List ℕ → ℕ → Type 0
FirstPairReaches g t labels x =
    (y : ℕ) × IsFirstPartner g labels x y × Reaches t (between g labels x y)

-- a name of the cell is passed to the parent where it is frozen, or its first pair reaches the threshold
pub record IsPassed (g : Grid) (t : Threshold) (c : Chunking) (m : ℕ) (labels : List ℕ) (x : ℕ) : Type 0 where
  pub name : x ≢ 0
  pub occurs : IsTrue (occurs_in c m labels x)
  pub open_ : IsFrozen c m labels x ⊎ FirstPairReaches g t labels x
