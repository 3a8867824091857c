-- Two slots that are first for each other.
use Rattle.std.proofs.Common.{◌≡◌, ◌≢◌, ◌⊎◌, inl, inr, ℕ, ◌==◌, true, false, cond, List, Some, sym, ap, ◌∙◌, subst, arith}
use Rattle.std.proofs.lemmas.Bool.{cases_eq}
use Rattle.std.proofs.lemmas.Bool.Decides.{nat_tests}
use Rattle.agglo_model.specs.PairOrder.{Threshold, Reaches}
use Rattle.agglo_model.specs.RegionGraph.{Region}
use Rattle.mutual_merge.specs.declared.links.Link.{Link}
use Rattle.mutual_merge.specs.Slots.{AreFree, IsFirstAt, IsFirstPairAt, IsLiveAt, nth_link, other_end}

-- the two ends of a link at a slot are that one and the other
pub ends_of : (k : ℕ) (l : Link) → IsLiveAt k l → ((l.a ≡ k) × (l.b ≡ other_end k l)) ⊎ ((l.a ≡ other_end k l) × (l.b ≡ k))
ends_of k l live = elim (cases_eq l.a k) [
  | inl first ↦ inl (first, sym (ap (λ b. cond b l.b l.a) (is_same l.a k first)))
  | inr second ↦ inr (
    sym (ap (λ b. cond b l.b l.a) (is_other l.a k second)),
    elim live.at_slot [
      | inl first ↦ absurd (second first)
      | inr at_b ↦ at_b
    ],
  )
]
  where
    is_same : (x y : ℕ) → x ≡ y → (x == y) ≡ true
    is_same x y same = grind (arith, nat_tests)

    is_other : (x y : ℕ) → x ≢ y → (x == y) ≡ false
    is_other x y other = grind (arith, nat_tests)

-- what is known where the partner's first link leads back
pub record LeadsBack (t : Threshold) (faces : ℕ) (regions : List Region) (links : List Link) (last partner index : ℕ) : Type 0 where
  pub first : IsFirstAt links last (Some index)
  pub back : IsFirstAt links partner (Some index)
  pub partner_is : partner ≡ other_end last (nth_link links index)
  pub reaches : Reaches t (nth_link links index).contact
  pub free : AreFree regions faces (nth_link links index)

pub first_pair : (t : Threshold) (faces : ℕ) (regions : List Region) (links : List Link) (last partner index : ℕ)
    → LeadsBack t faces regions links last partner index → IsFirstPairAt t faces regions links index
first_pair t faces regions links last partner index back = record {
  there = back.first.0;
  live = back.first.1.live;
  a_free = back.free.0;
  b_free = back.free.1;
  reaches = back.reaches;
  first = λ j below at_one. elim (ends_of last (nth_link links index) back.first.1) [
    | inl (a, b) ↦ elim at_one [
      | inl at_a ↦ back.first.2 j below (subst (λ k. IsLiveAt k (nth_link links j)) a at_a)
      | inr at_b ↦ back.back.2 j below (subst (λ k. IsLiveAt k (nth_link links j)) (b ∙ sym back.partner_is) at_b)
    ]
    | inr (a, b) ↦ elim at_one [
      | inl at_a ↦ back.back.2 j below (subst (λ k. IsLiveAt k (nth_link links j)) (a ∙ sym back.partner_is) at_a)
      | inr at_b ↦ back.first.2 j below (subst (λ k. IsLiveAt k (nth_link links j)) b at_b)
    ]
  ];
}
