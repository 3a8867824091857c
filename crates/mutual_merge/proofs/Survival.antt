-- The regions that are kept when mates are merged, region by region.
use Rattle.std.proofs.Common.{◌≡◌, inl, inr, ℕ, ◌+◌, ◌<◌, ◌≤◌, min, List, [], ◌∷◌, ◌++◌, length, get_or, refl, sym, ap, ◌∙◌, subst, below_more, arith}
use Rattle.std.specs.Prelude.{bit_or}
use Rattle.std.proofs.lemmas.List.{length_push, get_or_append_left, get_or_default, get_or_push, get_or_read}
use Rattle.std.proofs.lemmas.List.Quantifiers.{all_pairs_push}
use Rattle.agglo_model.specs.RegionGraph.{Region}
use Rattle.agglo_model.proofs.Cases.{below_next}
use Rattle.mutual_merge.specs.Linked.{Ascend, region_at, name_at, faces_at}
use Rattle.mutual_merge.specs.Merged.{AreMutual, AreSurvivors, survivor_of}
use Rattle.mutual_merge.proofs.RegionPlaces.{names_ascend}

-- what is kept of the first i regions
pub record SurvivorsSoFar (regions : List Region) (mates : List ℕ) (i : ℕ) (kept : List Region) (places : List ℕ) : Type 0 where
  pub one_each : length places ≡ i
  pub ascend : Ascend kept
  pub few : length kept ≤ i
  pub fewer : (k : ℕ) → k < i → get_or mates k 0 < k → length kept < i
  pub inside : (k : ℕ) → k < i → get_or places k 0 < length kept
  pub named : (k : ℕ) → k < i → name_at kept (get_or places k 0) ≡ name_at regions (survivor_of mates k)
  pub faced : (k : ℕ) → k < i → k ≤ get_or mates k 0
      → faces_at kept (get_or places k 0) ≡ bit_or (faces_at regions k) (faces_at regions (get_or mates k 0))
  pub each : (j : ℕ) → j < length kept → (k : ℕ) × (k < i) × (k ≤ get_or mates k 0) × (get_or places k 0 ≡ j)

pub SurvivorsSoFar-none : (regions : List Region) (mates : List ℕ) (kept : List Region) (places : List ℕ) → kept ≡ [] → places ≡ []
    → SurvivorsSoFar regions mates 0 kept places
SurvivorsSoFar-none regions mates kept places none none' = record {
  one_each = ap length none';
  ascend = subst Ascend (sym none) (λ i j d before below. absurd (omega arith));
  few = let len = ap length none in omega arith;
  fewer = λ k below. absurd (omega arith);
  inside = λ k below. absurd (omega arith);
  named = λ k below. absurd (omega arith);
  faced = λ k below. absurd (omega arith);
  each = λ j below. let len = ap length none in absurd (omega arith);
}

-- what is known of the next region
pub record AtRegion (regions : List Region) (mates : List ℕ) (i : ℕ) : Type 0 where
  pub ascend : Ascend regions
  pub mutual_are : AreMutual mates (length regions)
  pub below : i < length regions

module _ (regions : List Region) (mates : List ℕ) (i : ℕ) (kept : List Region) (places : List ℕ)
    (so_far : SurvivorsSoFar regions mates i kept places) (known : AtRegion regions mates i) where
  -- a place of before is still there
  place_before : (p k : ℕ) → k < i → get_or (places ++ p ∷ []) k 0 ≡ get_or places k 0
  place_before p k below = let len = so_far.one_each in get_or_append_left places (p ∷ []) 0 k (omega arith)

  place_here : (p : ℕ) → get_or (places ++ p ∷ []) i 0 ≡ p
  place_here p = get_or_push places p 0 i so_far.one_each

  -- the next region has a mate before it, and goes where that one went
  pub SurvivorsSoFar-skip : get_or mates i 0 < i → SurvivorsSoFar regions mates (i + 1) kept (places ++ get_or places (get_or mates i 0) 0 ∷ [])
  SurvivorsSoFar-skip before =
      let m = get_or mates i 0 in
      let p = get_or places m 0 in
      let back : get_or mates m 0 ≡ i = known.mutual_are.back i known.below in
      let own : min m (get_or mates m 0) ≡ m = omega arith in
      let here : min i m ≡ m = omega arith in
      record {
        one_each = length_push places p ∙ ap (λ n. n + 1) so_far.one_each;
        ascend = so_far.ascend;
        few = let f = so_far.few in omega arith;
        fewer = λ k below less. let f = so_far.few in omega arith;
        inside = below_more (λ k. get_or (places ++ p ∷ []) k 0 < length kept) i
            (λ k below. subst (λ q. q < length kept) (sym (place_before p k below)) (so_far.inside k below))
            (subst (λ q. q < length kept) (sym (place_here p)) (so_far.inside m before));
        named = below_more (λ k. name_at kept (get_or (places ++ p ∷ []) k 0) ≡ name_at regions (survivor_of mates k)) i
            (λ k below. ap (name_at kept) (place_before p k below) ∙ so_far.named k below)
            (ap (name_at kept) (place_here p) ∙ so_far.named m before ∙ ap (name_at regions) (own ∙ sym here));
        faced = λ k below least. elim (below_next k i below) [
          | inl less ↦ ap (faces_at kept) (place_before p k less) ∙ so_far.faced k less least
          | inr same ↦ let e = ap (λ z. get_or mates z 0) same in absurd (omega arith)
        ];
        each = λ j below.
            let found = so_far.each j below in
            let less = found.1 in
            (found.0, omega arith, found.2, place_before p found.0 found.1 ∙ found.3);
      }

  -- the next region has no mate before it, and is kept with the faces of both
  pub SurvivorsSoFar-keep : (r : Region) → i ≤ get_or mates i 0 → r.name ≡ name_at regions i
      → r.faces ≡ bit_or (faces_at regions i) (faces_at regions (get_or mates i 0))
      → SurvivorsSoFar regions mates (i + 1) (kept ++ r ∷ []) (places ++ length kept ∷ [])
  SurvivorsSoFar-keep r least name faces =
      let p = length kept in
      let len = length_push kept r in
      let here : min i (get_or mates i 0) ≡ i = omega arith in
      let region_before = λ (j : ℕ) (below : j < length kept). get_or_append_left kept (r ∷ []) (record { name = 0; faces = 0 }) j below in
      let region_here : region_at (kept ++ r ∷ []) p ≡ r = get_or_push kept r (record { name = 0; faces = 0 }) p refl in
      record {
        one_each = length_push places p ∙ ap (λ n. n + 1) so_far.one_each;
        ascend = all_pairs_push (λ q s. q.name < s.name) kept r so_far.ascend (λ j d below. lower j d below);
        few = let f = so_far.few in omega arith;
        fewer = λ k below less. elim (below_next k i below) [
          | inl before ↦ let f = so_far.fewer k before less in omega arith
          | inr same ↦ let e = ap (λ z. get_or mates z 0) same in absurd (omega arith)
        ];
        inside = below_more (λ k. get_or (places ++ p ∷ []) k 0 < length (kept ++ r ∷ [])) i
            (λ k below. let old = so_far.inside k below in let same = place_before p k below in omega arith)
            (let same = place_here p in omega arith);
        named = below_more (λ k. name_at (kept ++ r ∷ []) (get_or (places ++ p ∷ []) k 0) ≡ name_at regions (survivor_of mates k)) i
            (λ k below. ap (name_at (kept ++ r ∷ [])) (place_before p k below)
            ∙ ap (λ q. q.name) (region_before (get_or places k 0) (so_far.inside k below)) ∙ so_far.named k below)
            (ap (name_at (kept ++ r ∷ [])) (place_here p) ∙ ap (λ q. q.name) region_here ∙ name ∙ ap (name_at regions) (sym here));
        faced = λ k below least. elim (below_next k i below) [
          | inl less ↦ ap (faces_at (kept ++ r ∷ [])) (place_before p k less)
              ∙ ap (λ q. q.faces) (region_before (get_or places k 0) (so_far.inside k less)) ∙ so_far.faced k less least
          | inr same ↦ subst (λ z. faces_at (kept ++ r ∷ []) (get_or (places ++ p ∷ []) z 0)
              ≡ bit_or (faces_at regions z) (faces_at regions (get_or mates z 0))) (sym same)
              (ap (faces_at (kept ++ r ∷ [])) (place_here p) ∙ ap (λ q. q.faces) region_here ∙ faces)
        ];
        each = λ j below. elim (below_next j p (subst (λ n. j < n) len below)) [
          | inl less ↦
              let found = so_far.each j less in
              let low = found.1 in
              (found.0, omega arith, found.2, place_before p found.0 found.1 ∙ found.3)
          | inr same ↦ (i, omega arith, least, place_here p ∙ sym same)
        ];
      }
    where
      lower : (j : ℕ) (d : Region) → j < length kept → (get_or kept j d).name < r.name
      lower j d below =
          let found = so_far.each j below in
          let k = found.0 in
          let low = found.1 in
          let s : survivor_of mates k ≤ k = omega arith in
          let up = names_ascend regions (survivor_of mates k) i known.ascend (omega arith) known.below in
          let named : name_at kept j ≡ name_at regions (survivor_of mates k) =
          ap (name_at kept) (sym found.3) ∙ so_far.named k found.1 in
          let same = ap (λ q. q.name) (get_or_default kept j d (record { name = 0; faces = 0 }) below) in
          omega arith

pub AreSurvivors-all : (regions : List Region) (mates : List ℕ) (kept : List Region) (places : List ℕ)
    → SurvivorsSoFar regions mates (length regions) kept places → AreSurvivors regions mates kept places
AreSurvivors-all regions mates kept places so_far = record {
  one_each = so_far.one_each;
  ascend = so_far.ascend;
  few = so_far.few;
  fewer = so_far.fewer;
  inside = so_far.inside;
  named = so_far.named;
  faced = so_far.faced;
  each = so_far.each;
}

-- the two steps as a loop over the regions has them: x is the place of the mate, and q and s are the two regions
pub step_skip : (regions : List Region) (mates : List ℕ) (i : ℕ) (kept : List Region) (places : List ℕ) (x : ℕ)
    → SurvivorsSoFar regions mates i kept places → AtRegion regions mates i → get_or mates i 0 < i
    → x ≡ get_or places (get_or mates i 0) x → SurvivorsSoFar regions mates (i + 1) kept (places ++ x ∷ [])
step_skip regions mates i kept places x so_far known before at_x =
    let len = so_far.one_each in
    subst (λ z. SurvivorsSoFar regions mates (i + 1) kept (places ++ z ∷ []))
    (sym (get_or_read places (get_or mates i 0) x (omega arith) at_x 0))
    (SurvivorsSoFar-skip regions mates i kept places so_far known before)

pub step_keep : (regions : List Region) (mates : List ℕ) (i : ℕ) (kept : List Region) (places : List ℕ) (q s r : Region)
    → SurvivorsSoFar regions mates i kept places → AtRegion regions mates i → i ≤ get_or mates i 0
    → q ≡ get_or regions i q → s ≡ get_or regions (get_or mates i 0) s
    → r ≡ record { name = q.name; faces = bit_or q.faces s.faces }
    → SurvivorsSoFar regions mates (i + 1) (kept ++ r ∷ []) (places ++ length kept ∷ [])
step_keep regions mates i kept places q s r so_far known least at_q at_s is =
    let d : Region = record { name = 0; faces = 0 } in
    let q_is = get_or_read regions i q known.below at_q d in
    let s_is = get_or_read regions (get_or mates i 0) s (known.mutual_are.inside i known.below) at_s d in
    SurvivorsSoFar-keep regions mates i kept places so_far known r least
    (ap (λ z. z.name) is ∙ ap (λ z. z.name) q_is)
    (ap (λ z. z.faces) is ∙ (λ j. bit_or (q_is j).faces (s_is j).faces))
