-- Reciprocal pairs that share no region, link by link.
use Rattle.std.proofs.Common.{◌≡◌, ◌≢◌, ◌⊎◌, inl, inr, ℕ, ◌+◌, ◌<◌, ◌≤◌, List, [], ◌∷◌, ◌++◌, length, get_or, set, Option, Some, None, refl, sym, ap, ◌∙◌, subst, zero-add, arith}
use Rattle.std.specs.Prelude.{Contains, All, AllPairs}
use Rattle.std.specs.List.{range_with_len}
use Rattle.std.proofs.lemmas.List.{length-set, length_push, get_or-set_same, get_or-set_other}
use Rattle.std.proofs.lemmas.List.FromFn.{get_or-range_with_len, length-range_with_len}
use Rattle.std.proofs.lemmas.List.Elements.{All-nil, All-push, Contains-push, Contains-append_left, Contains-get_or, All-contains}
use Rattle.std.proofs.lemmas.List.Quantifiers.{all_pairs_push}
use Rattle.agglo_model.specs.PairOrder.{Contact, Threshold, Before}
use Rattle.agglo_model.specs.RegionGraph.{Region}
use Rattle.agglo_model.proofs.Means.{before-between}
use Rattle.agglo_model.proofs.Members.{contains_none, All-from_contains}
use Rattle.agglo_model.proofs.Cases.{name_cases}
use Rattle.mutual_merge.specs.declared.links.Link.{Link}
use Rattle.mutual_merge.specs.Linked.{IsLink, IsAtPlace}
use Rattle.mutual_merge.specs.Firsts.{NoneBefore, IsFirst, AreFirsts, IsNotEarlier}
use Rattle.mutual_merge.specs.Pairs.{IsReciprocalLink, IsReciprocalBy, ShareNoPlace, AreMates, AreSingle, IsPaired, IsPairing}

-- the pairs among the first i links
pub record PairsSoFar (t : Threshold) (faces : ℕ) (regions : List Region) (links : List Link) (i : ℕ) (mates : List ℕ) (pairs : List Link) : Type 0 where
  pub one_each : length mates ≡ length regions
  pub inside : All (IsLink (length regions)) pairs
  pub reciprocal : All (IsReciprocalLink t faces regions links) pairs
  pub mated : All (AreMates mates) pairs
  pub single : (k : ℕ) → k < length regions → (get_or mates k 0 ≡ k) ⊎ IsPaired pairs k
  pub apart : AllPairs ShareNoPlace pairs
  pub complete : pairs ≡ [] → (k : ℕ) (d : Link) → k < i → ¬ (IsReciprocalLink t faces regions links (get_or links k d))

-- before the first link each region is its own mate
pub PairsSoFar-none : (t : Threshold) (faces : ℕ) (regions : List Region) (links : List Link) (mates : List ℕ) (pairs : List Link)
    → mates ≡ range_with_len 0 (length regions) → pairs ≡ [] → PairsSoFar t faces regions links 0 mates pairs
PairsSoFar-none t faces regions links mates pairs range none = record {
  one_each = ap length range ∙ length-range_with_len 0 (length regions);
  inside = subst (All (IsLink (length regions))) (sym none) (All-nil (IsLink (length regions)));
  reciprocal = subst (All (IsReciprocalLink t faces regions links)) (sym none) (All-nil (IsReciprocalLink t faces regions links));
  mated = subst (All (AreMates mates)) (sym none) (All-nil (AreMates mates));
  single = λ k below. inl (ap (λ xs. get_or xs k 0) range ∙ get_or-range_with_len 0 (length regions) k 0 below ∙ zero-add k);
  apart = subst (AllPairs ShareNoPlace) (sym none) (λ i j d before below. absurd (omega arith));
  complete = λ _ k d below. absurd (omega arith);
}

-- what is known of the first contacts at the regions of a link
pub record AtLink (t : Threshold) (faces : ℕ) (regions : List Region) (links : List Link) (firsts : List (Option Contact)) (l : Link) : Type 0 where
  pub are : AreFirsts links (length regions) firsts
  pub counts : (m : Link) → Contains links m → 0 < m.contact.count
  pub there : Contains links l
  pub is : IsLink (length regions) l

-- no link at a place comes before a contact where the first one there doesn't
none_before : (links : List Link) (k : ℕ) (o : Option Contact) (l : Link) → ((m : Link) → Contains links m → 0 < m.contact.count)
    → Contains links l → IsAtPlace k l → IsFirst links k o → IsNotEarlier o l.contact → NoneBefore links k l.contact
none_before links k None l counts there at_k first later m inside at_m before = first m inside at_m
none_before links k (Some c) l counts there at_k first later m inside at_m before =
    let pos : 0 < c.count = subst (λ z. 0 < z.count) first.contact_is (counts first.link first.there) in
    elim (before-between m.contact c l.contact (counts m inside) pos (counts l there) before) [
      | inl one ↦ first.none_before m inside at_m one
      | inr other ↦ later other
    ]

-- and the first one doesn't come before a contact that no link comes before
not_earlier : (links : List Link) (k : ℕ) (o : Option Contact) (c : Contact) → IsFirst links k o → NoneBefore links k c
    → IsNotEarlier o c
not_earlier links k None c first none = tt
not_earlier links k (Some d) c first none =
    subst (λ z. ¬ (Before z c)) first.contact_is (none first.link first.there first.at_place)

reciprocal_of : (t : Threshold) (faces : ℕ) (regions : List Region) (links : List Link) (firsts : List (Option Contact)) (l : Link)
    → AtLink t faces regions links firsts l → IsReciprocalBy t faces regions firsts l → IsReciprocalLink t faces regions links l
reciprocal_of t faces regions links firsts l known by_firsts =
    let up = known.is.ordered in
    let low = known.is.inside in
    record {
      there = known.there;
      a_free = by_firsts.a_free;
      b_free = by_firsts.b_free;
      reaches = by_firsts.reaches;
      first_of_a = none_before links l.a (get_or firsts l.a None) l known.counts known.there (inl refl)
          (known.are.first l.a (omega arith)) by_firsts.first_of_a;
      first_of_b = none_before links l.b (get_or firsts l.b None) l known.counts known.there (inr refl)
          (known.are.first l.b low) by_firsts.first_of_b;
    }

by_firsts_of : (t : Threshold) (faces : ℕ) (regions : List Region) (links : List Link) (firsts : List (Option Contact)) (l : Link)
    → AtLink t faces regions links firsts l → IsReciprocalLink t faces regions links l → IsReciprocalBy t faces regions firsts l
by_firsts_of t faces regions links firsts l known pair =
    let up = known.is.ordered in
    let low = known.is.inside in
    record {
      a_free = pair.a_free;
      b_free = pair.b_free;
      reaches = pair.reaches;
      first_of_a = not_earlier links l.a (get_or firsts l.a None) l.contact (known.are.first l.a (omega arith)) pair.first_of_a;
      first_of_b = not_earlier links l.b (get_or firsts l.b None) l.contact (known.are.first l.b low) pair.first_of_b;
    }

unpaired : (k : ℕ) → ¬ (IsPaired [] k)
unpaired k (l, inside, at_k) = contains_none l inside

-- a link that can't be a pair is passed by
pub PairsSoFar-skip : (t : Threshold) (faces : ℕ) (regions : List Region) (links : List Link) (i : ℕ) (mates : List ℕ)
    (pairs : List Link) (firsts : List (Option Contact)) (l : Link) → PairsSoFar t faces regions links i mates pairs
    → AtLink t faces regions links firsts l → ((d : Link) → get_or links i d ≡ l)
    → ¬ (AreSingle mates l × IsReciprocalBy t faces regions firsts l) → PairsSoFar t faces regions links (i + 1) mates pairs
PairsSoFar-skip t faces regions links i mates pairs firsts l so_far known at_i cant = record {
  one_each = so_far.one_each;
  inside = so_far.inside;
  reciprocal = so_far.reciprocal;
  mated = so_far.mated;
  single = so_far.single;
  apart = so_far.apart;
  complete = λ none k d below pair. elim (last_case k i below) [
    | inl before ↦ so_far.complete none k d before pair
    | inr same ↦ here none (subst (IsReciprocalLink t faces regions links) (ap (λ j. get_or links j d) same ∙ at_i d) pair)
  ];
}
  where
    last_case : (k i : ℕ) → k < i + 1 → (k < i) ⊎ (k ≡ i)
    last_case k i below = grind arith

    alone : pairs ≡ [] → (k : ℕ) → k < length regions → get_or mates k 0 ≡ k
    alone none k below = elim (so_far.single k below) [
      | inl same ↦ same
      | inr paired ↦ absurd (unpaired k (subst (λ ps. IsPaired ps k) none paired))
    ]

    here : pairs ≡ [] → IsReciprocalLink t faces regions links l → ⊥
    here none pair =
        let up = known.is.ordered in
        let low = known.is.inside in
        cant (
          record { a_single = alone none l.a (omega arith); b_single = alone none l.b low },
          by_firsts_of t faces regions links firsts l known pair,
        )

-- the mates after the two regions of a link are made mates
abbrev pub mated_by : List ℕ → Link → List ℕ
mated_by mates l = set (set mates l.a l.b) l.b l.a

-- what the two regions of the link are to those of another pair: other ones, since they are single
apart_from : (mates : List ℕ) (p l : Link) → AreMates mates p → AreSingle mates l → p.a < p.b → ShareNoPlace p l
apart_from mates p l mated single ordered = record {
  smaller = λ e. let two = ap (λ k. get_or mates k 0) e in let m = mated.of_a in let s = single.a_single in omega arith;
  smaller_greater = λ e. let two = ap (λ k. get_or mates k 0) e in let m = mated.of_b in let s = single.a_single in omega arith;
  greater_smaller = λ e. let two = ap (λ k. get_or mates k 0) e in let m = mated.of_a in let s = single.b_single in omega arith;
  greater = λ e. let two = ap (λ k. get_or mates k 0) e in let m = mated.of_b in let s = single.b_single in omega arith;
}

module _ (mates : List ℕ) (l : Link) (a_in : l.a < length mates) (b_in : l.b < length mates) (ordered : l.a < l.b) where
  mate_of_a : get_or (mated_by mates l) l.a 0 ≡ l.b
  mate_of_a =
      get_or-set_other (set mates l.a l.b) l.b l.a l.a 0 (λ e. omega arith) ∙ get_or-set_same mates l.a l.b 0 a_in

  mate_of_b : get_or (mated_by mates l) l.b 0 ≡ l.a
  mate_of_b =
      let len = length-set mates l.a l.b in
      let inside : l.b < length (set mates l.a l.b) = omega arith in
      get_or-set_same (set mates l.a l.b) l.b l.a 0 inside

  mate_of_other : (k : ℕ) → k ≢ l.a → k ≢ l.b → get_or (mated_by mates l) k 0 ≡ get_or mates k 0
  mate_of_other k ka kb =
      get_or-set_other (set mates l.a l.b) l.b k l.a 0 kb ∙ get_or-set_other mates l.a k l.b 0 ka

-- a link that can be a pair is taken
pub PairsSoFar-take : (t : Threshold) (faces : ℕ) (regions : List Region) (links : List Link) (i : ℕ) (mates : List ℕ)
    (pairs : List Link) (firsts : List (Option Contact)) (l : Link) → PairsSoFar t faces regions links i mates pairs
    → AtLink t faces regions links firsts l
    → AreSingle mates l → IsReciprocalBy t faces regions firsts l
    → PairsSoFar t faces regions links (i + 1) (mated_by mates l) (pairs ++ l ∷ [])
PairsSoFar-take t faces regions links i mates pairs firsts l so_far known alone by_firsts = record {
  one_each = length-set (set mates l.a l.b) l.b l.a ∙ length-set mates l.a l.b ∙ so_far.one_each;
  inside = All-push (IsLink (length regions)) pairs l so_far.inside known.is;
  reciprocal = All-push (IsReciprocalLink t faces regions links) pairs l so_far.reciprocal
      (reciprocal_of t faces regions links firsts l known by_firsts);
  mated = All-push (AreMates (mated_by mates l)) pairs l
      (All-from_contains (AreMates (mated_by mates l)) pairs (λ p inside. still_mates p inside))
      (record { of_a = mate_of_a mates l a_in b_in ordered; of_b = mate_of_b mates l a_in b_in ordered });
  single = λ k below. single_of k below (name_cases k l.a l.b);
  apart = all_pairs_push ShareNoPlace pairs l so_far.apart
      (λ k d below. apart_of (get_or pairs k d) (Contains-get_or pairs k d below));
  complete = λ none. absurd (not_none none);
}
  where
    ordered : l.a < l.b
    ordered = known.is.ordered

    b_in : l.b < length mates
    b_in = let len = so_far.one_each in let low = known.is.inside in omega arith

    a_in : l.a < length mates
    a_in = let up = known.is.ordered in let len = so_far.one_each in let low = known.is.inside in omega arith

    apart_of : (p : Link) → Contains pairs p → ShareNoPlace p l
    apart_of p inside =
        apart_from mates p l (All-contains (AreMates mates) pairs p so_far.mated inside) alone
        (All-contains (IsLink (length regions)) pairs p so_far.inside inside).ordered

    still_mates : (p : Link) → Contains pairs p → AreMates (mated_by mates l) p
    still_mates p inside =
        let none = apart_of p inside in
        let mated = All-contains (AreMates mates) pairs p so_far.mated inside in
        record {
          of_a = mate_of_other mates l a_in b_in ordered p.a (λ e. none.smaller (sym e)) (λ e. none.greater_smaller (sym e)) ∙ mated.of_a;
          of_b = mate_of_other mates l a_in b_in ordered p.b (λ e. none.smaller_greater (sym e)) (λ e. none.greater (sym e)) ∙ mated.of_b;
        }

    single_of : (k : ℕ) → k < length regions → (k ≡ l.a) ⊎ (k ≡ l.b) ⊎ ((k ≢ l.a) × (k ≢ l.b))
        → (get_or (mated_by mates l) k 0 ≡ k) ⊎ IsPaired (pairs ++ l ∷ []) k
    single_of k below (inl same) = inr (l, Contains-push pairs l, inl (sym same))
    single_of k below (inr (inl same)) = inr (l, Contains-push pairs l, inr (sym same))
    single_of k below (inr (inr (ka, kb))) = elim (so_far.single k below) [
      | inl own ↦ inl (mate_of_other mates l a_in b_in ordered k ka kb ∙ own)
      | inr (p, inside, at_k) ↦ inr (p, Contains-append_left pairs (l ∷ []) p inside, at_k)
    ]

    not_none : pairs ++ l ∷ [] ≡ [] → ⊥
    not_none none = let len = length_push pairs l in let zero = ap length none in omega arith

-- after the last link
pub IsPairing-all : (t : Threshold) (faces : ℕ) (regions : List Region) (links : List Link) (i : ℕ) (mates : List ℕ) (pairs : List Link)
    → length links ≤ i → PairsSoFar t faces regions links i mates pairs → IsPairing t faces regions links mates pairs
IsPairing-all t faces regions links i mates pairs long so_far = record {
  one_each = so_far.one_each;
  reciprocal = so_far.reciprocal;
  mated = so_far.mated;
  single = so_far.single;
  apart = so_far.apart;
  complete = λ none l pair. ended none l pair pair.there;
}
  where
    ended : pairs ≡ [] → (l : Link) → IsReciprocalLink t faces regions links l → Contains links l → ⊥
    ended none l pair (k, below, same) =
        so_far.complete none k l (omega arith) (subst (IsReciprocalLink t faces regions links) (sym same) pair)
