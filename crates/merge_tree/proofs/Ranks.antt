-- The test of pair order, and what a list is that is sorted by it.
use Rattle.std.proofs.Common.{◌≡◌, ◌⊎◌, inl, inr, ℕ, ◌+◌, ◌*◌, ◌<◌, ◌≤◌, Bool, true, false, List, get_or, refl, sym, ap, arith, Less, Equal, Greater, Ordering, is_lt}
use Rattle.std.specs.Prelude.{All, AllPairs, IsPermutation}
use Rattle.std.specs.Cmp.{IsStrictWeakOrder}
use Rattle.std.specs.List.Sorted.{IsSortedBy}
use Rattle.std.proofs.lemmas.Bool.Decides.{nat_tests}
use Rattle.std.proofs.lemmas.List.Sorted.{All-permutation, sorted_far}
use Rattle.agglo_model.specs.Greedy.{Merge, RanksFirst}
use Rattle.agglo_model.specs.MergeLaws.{AreFalling}
use Rattle.agglo_model.proofs.Means.{falls}
use Rattle.merge_tree.specs.Order.{DifferInRank, HasEdges, goes_first}
use Rattle.merge_tree.proofs.Reordered.{AllPairs-permutation}

-- the test says what it means, where both have an edge
before_is_first : (m n : Merge) → HasEdges m → HasEdges n → RanksFirst m n → goes_first m n ≡ true
unfolding goes_first
before_is_first m n some some' (inl h) = grind (arith, nat_tests)
before_is_first m n some some' (inr h) = grind (arith, nat_tests)

first_is_before : (m n : Merge) → HasEdges m → HasEdges n → goes_first m n ≡ true → RanksFirst m n
unfolding goes_first
first_is_before m n some some' h = grind (arith, nat_tests)

-- a comparison that answers by pair order answers by the test
pub less_is_first : (m n : Merge) (r : Ordering) → HasEdges m → HasEdges n → (r ≡ Less → RanksFirst m n) → (RanksFirst m n → r ≡ Less)
    → is_lt r ≡ goes_first m n
less_is_first m n r some some' says meets =
    elim (goes_first m n) as (λ b. goes_first m n ≡ b → is_lt r ≡ b) [
      | true ↦ λ e. ap is_lt (meets (first_is_before m n some some' e))
      | false ↦ λ e. not_less r (λ less. true_or_false (before_is_first m n some some' (says less)) e)
    ] refl
  where
    true_or_false : {b : Bool} → b ≡ true → b ≡ false → ⊥
    true_or_false t f = cc

    not_less : (r : Ordering) → (r ≡ Less → ⊥) → is_lt r ≡ false
    not_less Less h = absurd (h refl)
    not_less Equal h = refl
    not_less Greater h = refl

one_way : (m n : Merge) → goes_first m n ≡ true → goes_first n m ≡ false
unfolding goes_first
one_way m n h = grind (arith, nat_tests)

-- means that do not fall
rises : (s1 c1 s2 c2 s3 c3 : ℕ) → 0 < c2 → s1 * c2 ≤ s2 * c1 → s2 * c3 ≤ s3 * c2 → s1 * c3 ≤ s3 * c1
rises s1 c1 s2 c2 s3 c3 pos one other = falls s3 c3 s2 c2 s1 c1 pos other one

-- what is so where the second has an edge and the first does not go first
record IsNotBefore (m n : Merge) : Type 0 where
  mean : m.contact.sum * n.contact.count ≤ n.contact.sum * m.contact.count
  tie : m.contact.sum * n.contact.count ≡ n.contact.sum * m.contact.count → n.contact.tie ≤ m.contact.tie

is_not_before : (m n : Merge) → HasEdges m → goes_first m n ≡ false → IsNotBefore m n
unfolding goes_first
is_not_before m n some h = record {
  mean = grind (arith, nat_tests);
  tie = λ e. grind (arith, nat_tests);
}

is_not_first : (m n : Merge) → HasEdges n → IsNotBefore m n → goes_first m n ≡ false
unfolding goes_first
is_not_first m n some h = grind (arith, nat_tests, h.mean, h.tie)

-- one that goes not before another with an edge
has_edges_too : (m n : Merge) → HasEdges m → goes_first m n ≡ false → HasEdges n
unfolding goes_first
has_edges_too m n some h = grind (arith, nat_tests)

goes_last : (m n : Merge) → m.contact.count ≡ 0 → goes_first m n ≡ false
unfolding goes_first
goes_last m n none = grind (arith, nat_tests)

equal_means : (s1 c1 s2 c2 s3 c3 : ℕ) → 0 < c1 → 0 < c3 → s1 * c2 ≤ s2 * c1 → s2 * c3 ≤ s3 * c2 → s1 * c3 ≡ s3 * c1
    → (s1 * c2 ≡ s2 * c1) × (s2 * c3 ≡ s3 * c2)
equal_means s1 c1 s2 c2 s3 c3 pos pos' one other same =
    let up : s3 * c2 ≤ s2 * c3 = rises s3 c3 s1 c1 s2 c2 pos (omega (arith, same)) one in
    let down : s2 * c1 ≤ s1 * c2 = rises s2 c2 s3 c3 s1 c1 pos' other (omega (arith, same)) in
    (omega (arith, one, down), omega (arith, up, other))

not_before_chain : (m n o : Merge) → HasEdges m → HasEdges n → HasEdges o → IsNotBefore m n → IsNotBefore n o → IsNotBefore m o
not_before_chain m n o pm pn po h k = record {
  mean = rises m.contact.sum m.contact.count n.contact.sum n.contact.count o.contact.sum o.contact.count pn h.mean k.mean;
  tie = λ e.
      let both = equal_means m.contact.sum m.contact.count n.contact.sum n.contact.count o.contact.sum o.contact.count pm po h.mean k.mean e in
      let one = h.tie both.0 in
      let other = k.tie both.1 in omega (arith, one, other);
}

chain : (m n o : Merge) → goes_first m n ≡ false → goes_first n o ≡ false → goes_first m o ≡ false
chain m n o h k = elim (some_or_none m.contact.count) [
  | inl none ↦ goes_last m o none
  | inr some ↦
      let some' : HasEdges n = has_edges_too m n some h in
      let some'' : HasEdges o = has_edges_too n o some' k in
      is_not_first m o some'' (not_before_chain m n o some some' some'' (is_not_before m n some h) (is_not_before n o some' k))
]
  where
    some_or_none : (n : ℕ) → (n ≡ 0) ⊎ (0 < n)
    some_or_none n = grind arith

pub first_order : IsStrictWeakOrder goes_first
first_order = record { one_way = one_way; chain = chain }

-- two merges of different rank, the second of which does not go first
comes_first : (m n : Merge) → HasEdges n → DifferInRank m n → goes_first n m ≡ false → RanksFirst m n
comes_first m n some differ h =
    let back = is_not_before n m some h in
    elim (less_or_same (n.contact.sum * m.contact.count) (m.contact.sum * n.contact.count) back.mean) [
      | inl less ↦ inl less
      | inr same ↦ inr (
        sym same,
        elim (less_or_same m.contact.tie n.contact.tie (back.tie same)) [
          | inl below ↦ below
          | inr equal ↦ absurd (differ (record { mean = sym same; tie = equal }))
        ],
      )
    ]
  where
    less_or_same : (a b : ℕ) → a ≤ b → (a < b) ⊎ (a ≡ b)
    less_or_same a b h = grind arith

-- a list sorted by the test is in pair order, where no two of it rank the same
pub all_falling : (given sorted : List Merge) → All HasEdges given → AllPairs DifferInRank given → IsPermutation given sorted
    → IsSortedBy goes_first sorted → AllPairs RanksFirst sorted
all_falling given sorted some differ moved up =
    let some' : All HasEdges sorted = All-permutation HasEdges given sorted moved some in
    let differ' : AllPairs DifferInRank sorted = AllPairs-permutation DifferInRank differ_back given sorted moved differ in
    λ i j d before lj. comes_first (get_or sorted i d) (get_or sorted j d) (some' j d lj) (differ' i j d before lj)
    (sorted_far goes_first first_order sorted up i j d (omega arith) lj)
  where
    differ_back : (m n : Merge) → DifferInRank m n → DifferInRank n m
    differ_back m n h = λ same. h (record { mean = sym same.mean; tie = sym same.tie })

pub falling : (sorted : List Merge) → AllPairs RanksFirst sorted → AreFalling sorted
falling sorted pairs = λ k d below. pairs k (k + 1) d (omega arith) below
