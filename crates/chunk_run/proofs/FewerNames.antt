-- Each merge of two names in contact leaves one name less, so there are fewer merges than names.
use Rattle.std.proofs.Common.{◌≡◌, ◌≢◌, ◌⊎◌, inl, inr, ℕ, zero, suc, ◌+◌, ◌<◌, ◌≤◌, ◌==◌, Bool, true, false, cond, List, [], ◌∷◌, length, count_by, refl, sym, ap, ◌∙◌, subst, eq-eqb, eqb-true, arith}
use Rattle.std.specs.List.{range_with_len}
use Rattle.std.proofs.lemmas.Bool.{cases_lt}
use Rattle.std.proofs.lemmas.Bool.Decides.{nat_tests}
use Rattle.std.proofs.lemmas.Grind.{fold-append}
use Rattle.std.proofs.lemmas.List.{get_or_past, length-append, get_or_default}
use Rattle.std.proofs.lemmas.List.Folds.{Any-from_list_any, list_any_at}
use Rattle.std.proofs.lemmas.List.FromFn.{length-range_with_len}
use Rattle.std.proofs.lemmas.List.Sums.{sum_by-cons, count_by-le-length}
use Rattle.agglo_model.specs.Grid.{Grid}
use Rattle.agglo_model.specs.PairOrder.{Threshold}
use Rattle.agglo_model.specs.Basins.{label_of, occurs}
use Rattle.agglo_model.specs.Contacts.{InContact, renamed}
use Rattle.agglo_model.specs.Greedy.{Merge, after_merge, after_merges}
use Rattle.agglo_model.specs.Cutting.{Chunking}
use Rattle.agglo_model.specs.Work.{IsWork, AreWorksFrom, all_merges}
use Rattle.agglo_model.proofs.ContactEdges.{InContact-names}
use Rattle.agglo_model.proofs.LawfulMerges.{InContact-occurs}
use Rattle.agglo_model.proofs.Renames.{new_name, label-renamed, not_absorbed}
use Rattle.agglo_model.proofs.Tests.{implied_le}

-- some voxel has the label x
abbrev Occurs : List ℕ → ℕ → Type 0
Occurs labels x = (v : ℕ) × (label_of labels v ≡ x)

occurs_from : (labels : List ℕ) (x : ℕ) → x ≢ 0 → Occurs labels x → occurs labels x ≡ true
occurs_from labels x some (v, is) = elim (cases_lt v (length labels)) [
  | inl inside ↦ list_any_at (λ y. y == x) labels v 0 inside (eq-eqb (label_of labels v) x is)
  | inr past ↦ absurd (some (sym is ∙ get_or_past labels v 0 past))
]

occurs_is : (labels : List ℕ) (x : ℕ) → occurs labels x ≡ true → Occurs labels x
occurs_is labels x pass =
    let found = Any-from_list_any (λ y. y == x) labels pass in (
      found.0,
      get_or_default labels found.0 0 found.1 found.2 ∙ found.3 ∙ eqb-true found.1 x found.4,
    )

-- how many names up to n occur
abbrev pub names_up_to : ℕ → List ℕ → ℕ
names_up_to n labels = count_by (occurs labels) (range_with_len 1 n)

pub names_up_to-le : (n : ℕ) (labels : List ℕ) → names_up_to n labels ≤ n
names_up_to-le n labels =
    omega (arith, count_by-le-length (occurs labels) (range_with_len 1 n), length-range_with_len 1 n)

-- no name above n occurs
abbrev pub AreUpTo : ℕ → List ℕ → Type 0
AreUpTo n labels = (x : ℕ) → Occurs labels x → x ≤ n

-- ---- counts of tests

counted_one : (t : Bool) → t ≡ true → 1 ≤ cond t 1 0
counted_one true pass = omega arith
counted_one false pass = absurd cc

counted_none : (t : Bool) → t ≡ false → cond t 1 0 ≤ 0
counted_none false fail = omega arith
counted_none true fail = absurd cc

-- a test that passes less counts no more
counts_less : (p q : ℕ → Bool) (a n : ℕ) → ((x : ℕ) → a ≤ x → q x ≡ true → p x ≡ true)
    → count_by q (range_with_len a n) ≤ count_by p (range_with_len a n)
counts_less p q a zero implies = omega arith
counts_less p q a (suc n) implies =
    let now = implied_le (p a) (q a) (implies a (omega arith)) in
    let rest = counts_less p q (a + 1) n (λ x from pass. implies x (omega arith) pass) in
    let sum_p = sum_by-cons (λ x. cond (p x) 1 0) a (range_with_len (a + 1) n) in
    let sum_q = sum_by-cons (λ x. cond (q x) 1 0) a (range_with_len (a + 1) n) in
    omega arith

-- and one less where it fails for one that passed
counts_fewer : (p q : ℕ → Bool) (a n b : ℕ) → ((x : ℕ) → a ≤ x → q x ≡ true → p x ≡ true) → a ≤ b → b < a + n
    → p b ≡ true → q b ≡ false → count_by q (range_with_len a n) + 1 ≤ count_by p (range_with_len a n)
counts_fewer p q a zero b implies from to pass fail = absurd (omega arith)
counts_fewer p q a (suc n) b implies from to pass fail = elim (cases_lt a b) [
  | inl later ↦ (
      let now = implied_le (p a) (q a) (implies a (omega arith)) in
      let rest = counts_fewer p q (a + 1) n b (λ x low q_pass. implies x (omega arith) q_pass) (omega arith) (omega arith) pass fail in
      let sum_p = sum_by-cons (λ x. cond (p x) 1 0) a (range_with_len (a + 1) n) in
      let sum_q = sum_by-cons (λ x. cond (q x) 1 0) a (range_with_len (a + 1) n) in
      omega arith)
  | inr at ↦ (
      let here : a ≡ b = omega arith in
      let one = counted_one (p a) (ap p here ∙ pass) in
      let none = counted_none (q a) (ap q here ∙ fail) in
      let rest = counts_less p q (a + 1) n (λ x low q_pass. implies x (omega arith) q_pass) in
      let sum_p = sum_by-cons (λ x. cond (p x) 1 0) a (range_with_len (a + 1) n) in
      let sum_q = sum_by-cons (λ x. cond (q x) 1 0) a (range_with_len (a + 1) n) in
      omega arith)
]

-- ---- one merge

-- what occurs after a rename occurred before
old_name : (a b x : ℕ) → (new_name a b x ≡ a) ⊎ (new_name a b x ≡ x)
old_name a b x = grind (arith, nat_tests)

module _ (g : Grid) (labels : List ℕ) (a b : ℕ) (touching : InContact g labels a b) where
  occurred : (x : ℕ) → Occurs (renamed labels a b) x → Occurs labels x
  occurred x (v, is) =
      let names = InContact-names g labels a b touching in
      let was = sym (label-renamed labels a b v (omega (arith, names))) ∙ is in
      elim (old_name a b (label_of labels v)) [
        | inl survivor ↦ (let there = (InContact-occurs g labels a b touching).0 in (there.0, there.1 ∙ sym survivor ∙ was))
        | inr same ↦ (v, sym same ∙ was)
      ]

  gone : occurs (renamed labels a b) b ≡ false
  gone = pick (occurs (renamed labels a b) b) refl
    where
      pick : (t : Bool) → occurs (renamed labels a b) b ≡ t → t ≡ false
      pick false is = refl
      pick true is =
          let there = occurs_is (renamed labels a b) b is in
          let names = InContact-names g labels a b touching in
          absurd (not_absorbed a b (label_of labels there.0) names.2
          (sym (label-renamed labels a b there.0 (omega (arith, names))) ∙ there.1))

  pub one_name_less : (n : ℕ) → AreUpTo n labels
      → (names_up_to n (renamed labels a b) + 1 ≤ names_up_to n labels) × AreUpTo n (renamed labels a b)
  one_name_less n small =
      let names = InContact-names g labels a b touching in
      let there = (InContact-occurs g labels a b touching).1 in (
        counts_fewer (occurs labels) (occurs (renamed labels a b)) 1 n b
            (λ x some pass. occurs_from labels x (omega arith) (occurred x (occurs_is (renamed labels a b) x pass)))
            (omega (arith, names)) (omega (arith, small b there))
            (occurs_from labels b (omega (arith, names)) there) gone,
        (λ x now. small x (occurred x now)),
      )

-- ---- the works of nodes

-- as many merges as names that are gone
abbrev LeavesFewer : ℕ → List ℕ → List Merge → Type 0
LeavesFewer n labels merges =
    (names_up_to n (after_merges labels merges) + length merges ≤ names_up_to n labels) × AreUpTo n (after_merges labels merges)

work_leaves_fewer : (g : Grid) (t : Threshold) (c : Chunking) (m n : ℕ) (labels : List ℕ) (work : List Merge)
    → IsWork g t c m labels work → AreUpTo n labels → LeavesFewer n labels work
work_leaves_fewer g t c m n labels [] is small = (omega arith, small)
work_leaves_fewer g t c m n labels (step ∷ steps) is small =
    let one = one_name_less g labels step.survivor step.absorbed is.0.reciprocal.pair.touching n small in
    let rest = work_leaves_fewer g t c m n (after_merge labels step) steps is.1 one.1 in
    (omega (arith, one.0, rest.0), rest.1)

works_leave_fewer : (g : Grid) (t : Threshold) (c : Chunking) (m n : ℕ) (labels : List ℕ) (works : List (List Merge))
    → AreWorksFrom g t c m labels works → AreUpTo n labels → LeavesFewer n labels (all_merges works)
works_leave_fewer g t c m n labels [] are small = (omega arith, small)
works_leave_fewer g t c m n labels (work ∷ works) are small =
    let one = work_leaves_fewer g t c m n labels work are.0 small in
    let rest = works_leave_fewer g t c (suc m) n (after_merges labels work) works are.1 one.1 in
    let all : after_merges labels (all_merges (work ∷ works)) ≡ after_merges (after_merges labels work) (all_merges works) =
    fold-append after_merge labels work (all_merges works) in
    let len : length (all_merges (work ∷ works)) ≡ length work + length (all_merges works) = length-append work (all_merges works) in (
      subst (λ l. names_up_to n l + length (all_merges (work ∷ works)) ≤ names_up_to n labels) (sym all)
          (omega (arith, one.0, rest.0)),
      subst (AreUpTo n) (sym all) rest.1,
    )

-- so there are at most n merges
pub few_merges : (g : Grid) (t : Threshold) (c : Chunking) (n : ℕ) (labels : List ℕ) (works : List (List Merge))
    → AreWorksFrom g t c 0 labels works → AreUpTo n labels → length (all_merges works) ≤ n
few_merges g t c n labels works are small =
    omega (arith, (works_leave_fewer g t c 0 n labels works are small).0, names_up_to-le n labels)
