-- The open slots, slot by slot, and in the order of their names.
use Rattle.std.proofs.Common.{◌≡◌, ◌≢◌, ◌⊎◌, inl, inr, ℕ, ◌+◌, ◌<◌, ◌≤◌, Bool, true, eqb, List, [], ◌∷◌, ◌++◌, length, get_or, map, set, sym, ap, ◌∙◌, subst, arith}
use Rattle.std.specs.Prelude.{◌↔◌, AllPairs, Contains, IsPermutation}
use Rattle.std.specs.List.Sorted.{IsNonDecreasingBy}
use Rattle.std.proofs.lemmas.Bool.Decides.{Decides-eqb, nat_tests}
use Rattle.std.proofs.lemmas.Map.Made.{IsDistinct-from_AllPairs}
use Rattle.std.proofs.lemmas.Map.Keys.{IsDistinct-IsPermutation, IsStrictlyIncreasing-from_distinct}
use Rattle.std.proofs.lemmas.List.Kept.{AllPairs-from_increasing}
use Rattle.std.proofs.lemmas.List.Sorted.{IsPermutation-map, IsPermutation-sym, Contains-permutation, length_permutation}
use Rattle.std.proofs.lemmas.List.{get_or-map, get_or-set_other, get_or-set_same, length-map, length-set, length_push}
use Rattle.std.proofs.lemmas.List.Elements.{Contains-push, Contains-push_cases, Contains-append_left, Contains-get_or}
use Rattle.std.proofs.lemmas.List.Quantifiers.{all_pairs_push}
use Rattle.agglo_model.specs.RegionGraph.{Region}
use Rattle.mutual_merge.specs.declared.closing.OpenSlot.{OpenSlot}
use Rattle.mutual_merge.specs.Linked.{region_at}
use Rattle.mutual_merge.specs.Closing.{AreOpenSlots, HaveOwnNames, IsOpenSlot}

-- those of the first i slots that are open
pub record SlotsSoFar (regions : List Region) (closed : List Bool) (i : ℕ) (slots : List OpenSlot) : Type 0 where
  pub ascend : AllPairs (λ s u. s.slot < u.slot) slots
  pub few : length slots ≤ i
  pub each : (s : OpenSlot) → Contains slots s ↔ (IsOpenSlot regions closed s × (s.slot < i))

last_case : (k n : ℕ) → k < n + 1 → (k < n) ⊎ (k ≡ n)
last_case k n below = grind arith

-- a slot that is closed is left out
pub SlotsSoFar-skip : (regions : List Region) (closed : List Bool) (i : ℕ) (slots : List OpenSlot) → SlotsSoFar regions closed i slots
    → get_or closed i true ≡ true → SlotsSoFar regions closed (i + 1) slots
SlotsSoFar-skip regions closed i slots so_far shut = record {
  ascend = so_far.ascend;
  few = let few = so_far.few in omega arith;
  each = λ s. (
    λ inside. let is = (so_far.each s).0 inside in let low = is.1 in (is.0, omega arith),
    λ (is, below). elim (last_case s.slot i below) [
      | inl before ↦ (so_far.each s).1 (is, before)
      | inr here ↦ let open_here = is.is_open in let e = ap (λ k. get_or closed k true) here in absurd (cc)
    ],
  );
}

same_slot : (s u : OpenSlot) → s.slot ≡ u.slot → s.region ≡ u.region → s ≡ u
same_slot s u slot region = λ i. record { slot = slot i; region = region i }

-- one that is open comes next
pub SlotsSoFar-take : (regions : List Region) (closed : List Bool) (i : ℕ) (slots : List OpenSlot) (s : OpenSlot)
    → SlotsSoFar regions closed i slots → IsOpenSlot regions closed s → s.slot ≡ i → SlotsSoFar regions closed (i + 1) (slots ++ s ∷ [])
SlotsSoFar-take regions closed i slots s so_far is here = record {
  ascend = all_pairs_push (λ u v. u.slot < v.slot) slots s so_far.ascend (λ k d below.
      let before = ((so_far.each (get_or slots k d)).0 (Contains-get_or slots k d below)).1 in omega arith);
  few = let few = so_far.few in let len = length_push slots s in omega arith;
  each = λ u. (
    λ inside. elim (Contains-push_cases slots s u inside) [
      | inl there ↦ let known = (so_far.each u).0 there in let low = known.1 in (known.0, omega arith)
      | inr same ↦ let at_u = ap (λ v. v.slot) same in (subst (IsOpenSlot regions closed) same is, omega arith)
    ],
    λ (is_u, below). elim (last_case u.slot i below) [
      | inl before ↦ Contains-append_left slots (s ∷ []) u ((so_far.each u).1 (is_u, before))
      | inr last ↦
          subst (Contains (slots ++ s ∷ []))
          (same_slot s u (here ∙ sym last) (sym is.region_is ∙ ap (region_at regions) (here ∙ sym last) ∙ is_u.region_is))
          (Contains-push slots s)
    ],
  );
}

-- the places of the first i open slots
pub record PlacesSoFar (count : ℕ) (slots : List OpenSlot) (i : ℕ) (places : List ℕ) : Type 0 where
  pub one_each : length places ≡ count
  pub each : (p : ℕ) (d : OpenSlot) → p < i → get_or places (get_or slots p d).slot 0 ≡ p

-- the next one gets its place
pub PlacesSoFar-next : (count : ℕ) (slots : List OpenSlot) (i : ℕ) (places : List ℕ) (s : OpenSlot) → PlacesSoFar count slots i places
    → i < length slots → ((d : OpenSlot) → s ≡ get_or slots i d) → s.slot < count → AllPairs (λ u v. u.slot ≢ v.slot) slots
    → PlacesSoFar count slots (i + 1) (set places s.slot i)
PlacesSoFar-next count slots i places s so_far below is inside apart = record {
  one_each = length-set places s.slot i ∙ so_far.one_each;
  each = λ p d upto. elim (last_case p i upto) [
    | inl before ↦
        get_or-set_other places s.slot (get_or slots p d).slot i 0
        (λ same. apart p i d before below (same ∙ ap (λ u. u.slot) (is d)))
        ∙ so_far.each p d before
    | inr last ↦
        ap (λ k. get_or (set places s.slot i) (get_or slots k d).slot 0) last
        ∙ ap (λ u. get_or (set places s.slot i) u.slot 0) (sym (is d))
        ∙ get_or-set_same places s.slot i 0 (let len = so_far.one_each in omega arith)
        ∙ sym last
  ];
}

-- all slots
module _ (regions : List Region) (closed : List Bool) (slots sorted : List OpenSlot)
    (apart : HaveOwnNames regions closed) (all : SlotsSoFar regions closed (length regions) slots)
    (order : IsPermutation slots sorted) (up : IsNonDecreasingBy (λ s. s.region.name) sorted) where
  names : List OpenSlot → List ℕ
  names list = map (λ s. s.region.name) list

  name_of : (list : List OpenSlot) (i d : ℕ) (e : OpenSlot) → i < length (names list)
      → (i < length list) × (get_or (names list) i d ≡ (get_or list i e).region.name)
  unfolding names
  name_of list i d e below =
      let len = length-map list (λ (s : OpenSlot). s.region.name) in
      let inside : i < length list = omega arith in
      (inside, get_or-map (λ (s : OpenSlot). s.region.name) list i e d inside)

  none : OpenSlot
  none = record { slot = 0; region = record { name = 0; faces = 0 } }

  own_names : AllPairs (λ m n. m ≢ n) (names slots)
  own_names i j d before below same =
      let low = name_of slots i d none (omega arith) in
      let high = name_of slots j d none below in
      let s = get_or slots i none in
      let u = get_or slots j none in
      let is = ((all.each s).0 (Contains-get_or slots i none low.0)).0 in
      let is' = ((all.each u).0 (Contains-get_or slots j none high.0)).0 in
      let one = apart s.slot u.slot is.is_open is'.is_open
      (ap (λ r. r.name) is.region_is ∙ sym low.1 ∙ same ∙ high.1 ∙ sym (ap (λ r. r.name) is'.region_is)) in
      let less = all.ascend i j none before high.0 in
      omega arith

  names_rise : AllPairs (λ m n. m < n) (names sorted)
  unfolding names
  names_rise =
      AllPairs-from_increasing (names sorted)
      (IsStrictlyIncreasing-from_distinct (names sorted) non_decreasing
      (IsDistinct-IsPermutation eqb flips (names slots) (names sorted) (IsPermutation-map (λ s. s.region.name) slots sorted order)
      (IsDistinct-from_AllPairs {eq = eqb} Decides-eqb (names slots) own_names)))
    where
      flips : (m n : ℕ) → eqb m n ≡ eqb n m
      flips m n = grind (arith, nat_tests)

      non_decreasing : (i j d : ℕ) → i ≤ j → j < length (names sorted) → get_or (names sorted) i d ≤ get_or (names sorted) j d
      non_decreasing i j d before below =
          let low = name_of sorted i d none (omega arith) in
          let high = name_of sorted j d none below in
          let rise = up i j none before high.0 in
          let a = low.1 in
          let b = high.1 in
          omega arith

  pub AreOpenSlots-sorted : AreOpenSlots regions closed sorted
  unfolding names
  AreOpenSlots-sorted = record {
    ascend = λ i j d before below.
        let len = length-map sorted (λ (s : OpenSlot). s.region.name) in
        let low = (name_of sorted i 0 d (omega arith)).1 in
        let high = (name_of sorted j 0 d (omega arith)).1 in
        let rise = names_rise i j 0 before (omega arith) in
        omega arith;
    few = let len = length_permutation slots sorted order in let few = all.few in omega arith;
    each = λ s. (
      λ inside. ((all.each s).0 (Contains-permutation sorted slots s (IsPermutation-sym slots sorted order) inside)).0,
      λ is. Contains-permutation slots sorted s order ((all.each s).1 (is, is.there)),
    );
  }
