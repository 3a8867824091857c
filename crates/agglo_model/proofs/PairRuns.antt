-- Runs of merges of pairs of some kind, where a merge leaves the other pairs as they are: such runs may be
-- reordered, and from the same labels all have one outcome.
use Rattle.std.proofs.Common.{◌≡◌, ◌≢◌, ◌⊎◌, inl, inr, ℕ, List, [], ◌∷◌, refl, sym, ap, ◌∙◌, subst, arith}
use Rattle.std.specs.Prelude.{IsPermutation}
use Rattle.std.proofs.lemmas.List.Sorted.{IsPermutation-refl, IsPermutation-cons, IsPermutation-middle, IsPermutation-trans}
use Rattle.agglo_model.specs.Grid.{Grid}
use Rattle.agglo_model.specs.Contacts.{between, renamed}
use Rattle.agglo_model.specs.Greedy.{Merge, after_merge, after_merges}
use Rattle.agglo_model.specs.MergeLaws.{SameOutcome}

-- the merge is that of a pair of the kind
pub record IsStepOf (Pair : List ℕ → ℕ → ℕ → Type 0) (g : Grid) (labels : List ℕ) (m : Merge) : Type 0 where
  pub pair : Pair labels m.survivor m.absorbed
  pub contact_is : m.contact ≡ between g labels m.survivor m.absorbed

-- merges of pairs of the kind, until there is none
abbrev pub IsRunOf : (List ℕ → ℕ → ℕ → Type 0) → Grid → List ℕ → List Merge → Type 0
IsRunOf Pair g labels [] = (a b : ℕ) → ¬ (Pair labels a b)
IsRunOf Pair g labels (m ∷ merges) = IsStepOf Pair g labels m × IsRunOf Pair g (after_merge labels m) merges

-- the pair of c and d is still one after the merge of a and b, and the two merges commute
pub record StaysPair (Pair : List ℕ → ℕ → ℕ → Type 0) (g : Grid) (labels : List ℕ) (a b c d : ℕ) : Type 0 where
  pub still : Pair (renamed labels a b) c d
  pub same_contact : between g (renamed labels a b) c d ≡ between g labels c d
  pub either_order : renamed (renamed labels a b) c d ≡ renamed (renamed labels c d) a b

-- merges leave the other pairs as they are
abbrev pub ArePairsKept : (List ℕ → ℕ → ℕ → Type 0) → Grid → Type 0
ArePairsKept Pair g = (labels : List ℕ) (a b c d : ℕ) → Pair labels a b → Pair labels c d → (c ≢ a) ⊎ (d ≢ b)
    → StaysPair Pair g labels a b c d

-- a run in which one merge was taken first
record TakesFirstOf (Pair : List ℕ → ℕ → ℕ → Type 0) (g : Grid) (labels : List ℕ) (m : Merge) (merges : List Merge) : Type 0 where
  pub rest : List Merge
  pub run : IsRunOf Pair g (after_merge labels m) rest
  pub reordered : IsPermutation merges (m ∷ rest)
  pub same_labels : after_merges labels merges ≡ after_merges (after_merge labels m) rest

pub same_merge : (m n : Merge) → m.survivor ≡ n.survivor → m.absorbed ≡ n.absorbed → m.contact ≡ n.contact
    → m ≡ n
same_merge m n s a c = λ i. record { survivor = s i; absorbed = a i; contact = c i }

-- two pairs are one, or differ
pub pair_cases : (a b c d : ℕ) → ((a ≡ c) × (b ≡ d)) ⊎ ((c ≢ a) ⊎ (d ≢ b))
pair_cases a b c d = grind arith

pub different_swap : (a b c d : ℕ) → (c ≢ a) ⊎ (d ≢ b) → (a ≢ c) ⊎ (b ≢ d)
different_swap a b c d (inl h) = inl (λ e. h (sym e))
different_swap a b c d (inr h) = inr (λ e. h (sym e))

module _ (Pair : List ℕ → ℕ → ℕ → Type 0) (g : Grid) (kept : ArePairsKept Pair g) where
  -- a merge of a pair is still one after another
  step_after : (labels : List ℕ) (m n : Merge) → IsStepOf Pair g labels m → IsStepOf Pair g labels n
      → (n.survivor ≢ m.survivor) ⊎ (n.absorbed ≢ m.absorbed) → IsStepOf Pair g (after_merge labels m) n
  step_after labels m n one other apart =
      let stays = kept labels m.survivor m.absorbed n.survivor n.absorbed one.pair other.pair apart in
      record { pair = stays.still; contact_is = other.contact_is ∙ sym stays.same_contact }

  -- the run takes it first
  taken_now : (labels : List ℕ) (m n : Merge) (merges : List Merge) → IsRunOf Pair g labels (n ∷ merges)
      → IsStepOf Pair g labels m → (n.survivor ≡ m.survivor) × (n.absorbed ≡ m.absorbed)
      → TakesFirstOf Pair g labels m (n ∷ merges)
  taken_now labels m n merges run step same =
      let contacts : n.contact ≡ m.contact =
      run.0.contact_is ∙ (λ i. between g labels (same.0 i) (same.1 i)) ∙ sym step.contact_is in
      let equal : n ≡ m = same_merge n m same.0 same.1 contacts in
      record {
        rest = merges;
        run = subst (λ x. IsRunOf Pair g (after_merge labels x) merges) equal run.1;
        reordered = subst (λ x. IsPermutation (n ∷ merges) (x ∷ merges)) equal (IsPermutation-refl (n ∷ merges));
        same_labels = ap (λ x. after_merges (after_merge labels x) merges) equal;
      }

  -- the run takes another first, which then comes second
  taken_later : (labels : List ℕ) (m n : Merge) (merges : List Merge) → IsRunOf Pair g labels (n ∷ merges)
      → IsStepOf Pair g labels m → (m.survivor ≢ n.survivor) ⊎ (m.absorbed ≢ n.absorbed)
      → TakesFirstOf Pair g (after_merge labels n) m merges → TakesFirstOf Pair g labels m (n ∷ merges)
  taken_later labels m n merges run step apart later =
      let back = different_swap n.survivor n.absorbed m.survivor m.absorbed apart in
      let order : after_merge (after_merge labels n) m ≡ after_merge (after_merge labels m) n =
      (kept labels n.survivor n.absorbed m.survivor m.absorbed run.0.pair step.pair apart).either_order in
      record {
        rest = n ∷ later.rest;
        run = (step_after labels m n step run.0 back, subst (λ x. IsRunOf Pair g x later.rest) order later.run);
        reordered = IsPermutation-trans (n ∷ merges) (n ∷ m ∷ later.rest) (m ∷ n ∷ later.rest)
            (IsPermutation-cons n merges (m ∷ later.rest) later.reordered)
            (IsPermutation-middle (n ∷ []) m later.rest);
        same_labels = later.same_labels ∙ ap (λ x. after_merges x later.rest) order;
      }

  -- a run takes each merge that is open at its start, and may as well take it first
  to_front_of : (labels : List ℕ) (merges : List Merge) (m : Merge) → IsRunOf Pair g labels merges
      → IsStepOf Pair g labels m → TakesFirstOf Pair g labels m merges
  to_front_of labels [] m run step = absurd (run m.survivor m.absorbed step.pair)
  to_front_of labels (n ∷ merges) m run step =
      let later = λ (apart : (m.survivor ≢ n.survivor) ⊎ (m.absorbed ≢ n.absorbed)).
      to_front_of (after_merge labels n) merges m run.1 (step_after labels n m run.0 step apart) in
      elim (pair_cases n.survivor n.absorbed m.survivor m.absorbed) [
        | inl same ↦ taken_now labels m n merges run step same
        | inr apart ↦ taken_later labels m n merges run step apart (later apart)
      ]

  -- two runs from the same labels have the same outcome
  pub one_outcome : (labels : List ℕ) (merges others : List Merge) → IsRunOf Pair g labels merges
      → IsRunOf Pair g labels others → SameOutcome labels merges others
  one_outcome labels [] [] run other = record { same_labels = refl; same_merges = IsPermutation-refl [] }
  one_outcome labels (m ∷ merges) [] run other = absurd (other m.survivor m.absorbed run.0.pair)
  one_outcome labels merges (n ∷ others) run other =
      let front = to_front_of labels merges n run other.0 in
      let rest = one_outcome (after_merge labels n) front.rest others front.run other.1 in
      record {
        same_labels = front.same_labels ∙ rest.same_labels;
        same_merges = IsPermutation-trans merges (n ∷ front.rest) (n ∷ others) front.reordered
            (IsPermutation-cons n front.rest others rest.same_merges);
      }
