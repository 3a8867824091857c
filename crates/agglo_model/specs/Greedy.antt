-- Greedy agglomeration of the whole volume: always the pair of names with the greatest mean affinity.
use Rattle.std.specs.Prelude.{◌≡◌, ◌≢◌, ℕ, ◌<◌, ◌⊎◌, List, [], ◌∷◌, fold}
use Rattle.agglo_model.specs.Grid.{Grid}
use Rattle.agglo_model.specs.PairOrder.{Contact, Threshold, Before, Reaches}
use Rattle.agglo_model.specs.Contacts.{between, InContact, renamed}

-- one merge: the name that stays, the name that is given up, and the contact that they had
pub record Merge : Type 0 where
  pub survivor : ℕ
  pub absorbed : ℕ
  pub contact : Contact

-- one merge comes before another in pair order: its contact does
abbrev pub RanksFirst : Merge → Merge → Type 0
RanksFirst m n = Before m.contact n.contact

-- the labels after a merge, and after several, one after another
abbrev pub after_merge : List ℕ → Merge → List ℕ
after_merge labels m = renamed labels m.survivor m.absorbed

abbrev pub after_merges : List ℕ → List Merge → List ℕ
after_merges labels merges = fold after_merge labels merges

-- a and b are in contact, and their contact comes before that of every other pair of names
pub record IsFirstPair (g : Grid) (labels : List ℕ) (a b : ℕ) : Type 0 where
  pub ordered : a < b
  pub touching : InContact g labels a b
  pub first : (c d : ℕ) → c < d → InContact g labels c d → (c ≢ a) ⊎ (d ≢ b)
      → Before (between g labels a b) (between g labels c d)

-- the merge is that of the first pair, whose contact reaches the threshold
pub record IsGreedyStep (g : Grid) (t : Threshold) (labels : List ℕ) (m : Merge) : Type 0 where
  pub first : IsFirstPair g labels m.survivor m.absorbed
  pub contact_is : m.contact ≡ between g labels m.survivor m.absorbed
  pub reaches : Reaches t m.contact

-- no names are in contact, or the first pair doesn't reach the threshold
abbrev pub IsGreedyEnd : Grid → Threshold → List ℕ → Type 0
IsGreedyEnd g t labels = ((a b : ℕ) → ¬ (InContact g labels a b))
    ⊎ ((a : ℕ) × (b : ℕ) × IsFirstPair g labels a b × ¬ (Reaches t (between g labels a b)))

-- the merges are greedy steps, one after another from these labels on, until no step is left
abbrev pub IsGreedyRun : Grid → Threshold → List ℕ → List Merge → Type 0
IsGreedyRun g t labels [] = IsGreedyEnd g t labels
IsGreedyRun g t labels (m ∷ merges) =
    IsGreedyStep g t labels m × IsGreedyRun g t (after_merge labels m) merges

-- a and b are reciprocal: each is the other's first partner in the whole volume, and their contact
-- reaches the threshold
pub record IsMutual (g : Grid) (t : Threshold) (labels : List ℕ) (a b : ℕ) : Type 0 where
  pub ordered : a < b
  pub touching : InContact g labels a b
  pub first_of_a : (c : ℕ) → c ≢ b → InContact g labels a c
      → Before (between g labels a b) (between g labels a c)
  pub first_of_b : (c : ℕ) → c ≢ a → InContact g labels b c
      → Before (between g labels a b) (between g labels b c)
  pub reaches : Reaches t (between g labels a b)

-- the merge is that of a reciprocal pair
pub record IsMutualStep (g : Grid) (t : Threshold) (labels : List ℕ) (m : Merge) : Type 0 where
  pub reciprocal : IsMutual g t labels m.survivor m.absorbed
  pub contact_is : m.contact ≡ between g labels m.survivor m.absorbed

-- the merges are of reciprocal pairs, one after another in any order, until no such pair is left
abbrev pub IsMutualRun : Grid → Threshold → List ℕ → List Merge → Type 0
IsMutualRun g t labels [] = (a b : ℕ) → ¬ (IsMutual g t labels a b)
IsMutualRun g t labels (m ∷ merges) =
    IsMutualStep g t labels m × IsMutualRun g t (after_merge labels m) merges
