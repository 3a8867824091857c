-- Places in a list of regions by ascending name.
use Rattle.std.proofs.Common.{◌≡◌, ◌≢◌, ◌⊎◌, inl, inr, ℕ, zero, suc, ◌<◌, ◌≤◌, true, false, ltb, List, length, get_or, ap, ◌∙◌, arith}
use Rattle.std.specs.Prelude.{Contains}
use Rattle.std.specs.List.Sorted.{IsNonDecreasingBy, IsPartitionPoint}
use Rattle.std.proofs.lemmas.Bool.{ltb-true, ltb-false}
use Rattle.std.proofs.lemmas.List.{get_or_default}
use Rattle.agglo_model.specs.RegionGraph.{Region}
use Rattle.agglo_model.proofs.Cases.{order_cases}
use Rattle.mutual_merge.specs.Linked.{Ascend, region_at, name_at}

-- names ascend with places
pub names_ascend : (rs : List Region) (i j : ℕ) → Ascend rs → i < j → j < length rs → name_at rs i < name_at rs j
names_ascend rs i j ascend before below = ascend i j (record { name = 0; faces = 0 }) before below

pub place_less : (rs : List Region) (i j : ℕ) → Ascend rs → i < length rs → j < length rs → name_at rs i < name_at rs j → i < j
place_less rs i j ascend in_i in_j less = elim (order_cases i j) [
  | inl before ↦ before
  | inr (inl same) ↦ let e = ap (name_at rs) same in absurd (omega arith)
  | inr (inr after) ↦ let more = names_ascend rs j i ascend after in_i in absurd (omega arith)
]

pub same_place : (rs : List Region) (i j : ℕ) → Ascend rs → i < length rs → j < length rs → name_at rs i ≡ name_at rs j → i ≡ j
same_place rs i j ascend in_i in_j same = elim (order_cases i j) [
  | inl before ↦ let less = names_ascend rs i j ascend before in_j in absurd (omega arith)
  | inr (inl equal) ↦ equal
  | inr (inr after) ↦ let more = names_ascend rs j i ascend after in_i in absurd (omega arith)
]

-- a place is no greater than the name there
pub place_below_name : (rs : List Region) (k : ℕ) → Ascend rs → k < length rs → k ≤ name_at rs k
place_below_name rs zero ascend below = omega arith
place_below_name rs (suc k) ascend below =
    let rest = place_below_name rs k ascend (omega arith) in
    let less = names_ascend rs k (suc k) ascend (omega arith) below in
    omega arith

-- the place of a region that is in the list
pub region_place : (rs : List Region) (r : Region) → Contains rs r → (k : ℕ) × (k < length rs) × (region_at rs k ≡ r)
region_place rs r (k, below, same) = (k, below, get_or_default rs k (record { name = 0; faces = 0 }) r below ∙ same)

-- where a name stands that is in the list, and before which all names are smaller
pub found_place : (rs : List Region) (i name faces : ℕ) → Ascend rs → Contains rs (record { name = name; faces = faces })
    → IsPartitionPoint (λ r. ltb r.name name ≡ true) (λ r. ltb r.name name ≡ false) rs i
    → (i < length rs) × (name_at rs i ≡ name)
found_place rs i name faces ascend inside (before, after) =
    let d : Region = record { name = 0; faces = 0 } in
    let place = region_place rs (record { name = name; faces = faces }) inside in
    let k = place.0 in
    let here : name_at rs k ≡ name = ap (λ r. r.name) place.2 in
    let low : i ≤ k = upto k here (order_cases i k) in
    let high = ltb-false (name_at rs i) name (after i d (omega arith) (omega (arith, place.1))) in
    let least : name_at rs i ≤ name = reach k here place.1 (order_cases i k) low in
    (omega (arith, place.1), omega arith)
  where
    upto : (k : ℕ) → name_at rs k ≡ name → (i < k) ⊎ (i ≡ k) ⊎ (k < i) → i ≤ k
    upto k here (inl less) = omega arith
    upto k here (inr (inl same)) = omega arith
    upto k here (inr (inr more)) =
        let less = ltb-true (name_at rs k) name (before k (record { name = 0; faces = 0 }) (omega arith) more) in absurd (omega arith)

    reach : (k : ℕ) → name_at rs k ≡ name → k < length rs → (i < k) ⊎ (i ≡ k) ⊎ (k < i) → i ≤ k → name_at rs i ≤ name
    reach k here below (inl less) low = let up = names_ascend rs i k ascend less below in omega arith
    reach k here below (inr (inl same)) low = let e = ap (name_at rs) same in omega arith
    reach k here below (inr (inr more)) low = absurd (omega arith)

pub IsNonDecreasingBy-names : (rs : List Region) → Ascend rs → IsNonDecreasingBy (λ r. r.name) rs
IsNonDecreasingBy-names rs ascend i j d upto below = step (order_cases i j)
  where
    step : (i < j) ⊎ (i ≡ j) ⊎ (j < i) → (get_or rs i d).name ≤ (get_or rs j d).name
    step (inl less) = let up = ascend i j d less below in omega arith
    step (inr (inl same)) = let e = ap (λ k. (get_or rs k d).name) same in omega arith
    step (inr (inr more)) = absurd (omega arith)

pub place_cases : (k a b : ℕ) → (k ≡ a) ⊎ (k ≡ b) ⊎ ((a ≢ k) × (b ≢ k))
place_cases k a b = grind arith
