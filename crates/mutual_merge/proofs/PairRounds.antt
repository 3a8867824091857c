-- Merging each region with its mate is a round of merges of the graph.
use Rattle.std.proofs.Common.{◌≡◌, ◌≢◌, ◌⊎◌, inl, inr, ℕ, ◌<◌, ◌≤◌, min, cond, eqb, List, [], ◌∷◌, length, get_or, refl, sym, ap, ◌∙◌, subst, arith}
use Rattle.std.specs.Prelude.{map, Contains, AllPairs, bit_and, bit_or}
use Rattle.std.specs.Int.Bits.{or_self}
use Rattle.std.proofs.lemmas.Bool.Decides.{nat_tests}
use Rattle.std.proofs.lemmas.List.{get_or-map, length-map, nil_from_length}
use Rattle.std.proofs.lemmas.List.Elements.{All-contains, All-get_or, Contains-get_or}
use Rattle.agglo_model.specs.PairOrder.{Threshold, Contact, Before}
use Rattle.agglo_model.specs.Greedy.{Merge}
use Rattle.agglo_model.specs.RegionGraph.{Region, GraphEdge, IsGraph, StandsBefore, contact_in}
use Rattle.agglo_model.specs.Settling.{IsFreeIn, IsReciprocalEdge, HasBothFaces, edge_after, edge_of, name_after}
use Rattle.agglo_model.proofs.Members.{contains_head, contains_tail, contains_cases, contains_none, all_pairs_head, all_pairs_tail, Contains-map, Contains-unmap}
use Rattle.agglo_model.proofs.RegionLists.{one_region}
use Rattle.agglo_model.proofs.GraphFirsts.{IsFirstAt}
use Rattle.agglo_model.proofs.GraphRounds.{Leads, round_leads, IsRound, IsRegionAfter, IsInNone, ShareNone, edges_after}
use Rattle.mutual_merge.specs.declared.links.Link.{Link}
use Rattle.mutual_merge.specs.Linked.{AreLinked, IsLink, IsAtPlace, LinkBefore, region_at, name_at, faces_at, edge_by, edges_by, graph_of}
use Rattle.mutual_merge.specs.Firsts.{NoneBefore}
use Rattle.mutual_merge.specs.Pairs.{IsReciprocalLink, ShareNoPlace, AreMates, IsPairing, merge_of}
use Rattle.mutual_merge.specs.Merged.{AreMutual, AreMerged, survivor_of}
use Rattle.mutual_merge.proofs.RegionPlaces.{names_ascend, same_place, region_place}
use Rattle.mutual_merge.proofs.MergedMates.{edges_by-agree}

-- the graph of regions and links is one
module _ (regions : List Region) (links : List Link) (linked : AreLinked regions links) where
  is_link : (l : Link) → Contains links l → IsLink (length regions) l
  is_link l inside = All-contains (IsLink (length regions)) links l linked.links_are.each inside

  stands : (l m : Link) → IsLink (length regions) l → IsLink (length regions) m → LinkBefore l m
      → StandsBefore (edge_by (name_at regions) l) (edge_by (name_at regions) m)
  stands l m one other (inl less) =
      let up = other.ordered in let low = other.inside in
      inl (names_ascend regions l.a m.a linked.regions_ascend less (omega arith))
  stands l m one other (inr (same, less)) =
      inr (ap (name_at regions) same, names_ascend regions l.b m.b linked.regions_ascend less other.inside)

  edges_ascend : AllPairs StandsBefore (edges_by (name_at regions) links)
  edges_ascend i j d before below =
      let len = length-map links (edge_by (name_at regions)) in
      let e : Link = record { a = 0; b = 0; contact = d.contact } in
      subst (λ z. StandsBefore z (get_or (edges_by (name_at regions) links) j d)) (sym (get_or-map (edge_by (name_at regions)) links i e d (omega arith)))
      (subst (StandsBefore (edge_by (name_at regions) (get_or links i e))) (sym (get_or-map (edge_by (name_at regions)) links j e d (omega arith)))
      (stands (get_or links i e) (get_or links j e)
      (All-get_or (IsLink (length regions)) links i e (omega arith) linked.links_are.each)
      (All-get_or (IsLink (length regions)) links j e (omega arith) linked.links_are.each)
      (linked.links_ascend i j e before (omega arith))))

  -- the link that an edge is
  pub link_of : (e : GraphEdge) → Contains (edges_by (name_at regions) links) e
      → (l : Link) × Contains links l × (edge_by (name_at regions) l ≡ e)
  link_of e inside = Contains-unmap (edge_by (name_at regions)) links e inside

  has_region : (k : ℕ) → k < length regions → (faces : ℕ) × Contains regions (record { name = name_at regions k; faces = faces })
  has_region k below = (faces_at regions k, Contains-get_or regions k (record { name = 0; faces = 0 }) below)

  pub linked_graph : IsGraph (graph_of regions links)
  linked_graph = record {
    regions_ascend = linked.regions_ascend;
    edges_ascend = edges_ascend;
    ordered = λ e inside.
        let found = link_of e inside in let l = found.0 in let is = is_link l found.1 in
        subst (λ z. z.a < z.b) found.2 (names_ascend regions l.a l.b linked.regions_ascend is.ordered is.inside);
    touching = λ e inside.
        let found = link_of e inside in
        subst (λ z. 0 < z.contact.count) found.2 (is_link found.0 found.1).touching;
    from_region = λ e inside.
        let found = link_of e inside in let l = found.0 in let is = is_link l found.1 in
        let up = is.ordered in let low = is.inside in
        subst (λ z. (faces : ℕ) × Contains regions (record { name = z.a; faces = faces })) found.2 (has_region l.a (omega arith));
    to_region = λ e inside.
        let found = link_of e inside in let l = found.0 in let is = is_link l found.1 in
        subst (λ z. (faces : ℕ) × Contains regions (record { name = z.b; faces = faces })) found.2 (has_region l.b is.inside);
  }

  -- a place is free where its region is
  free_at : (faces k : ℕ) → k < length regions → bit_and (faces_at regions k) faces ≡ 0
      → IsFreeIn (graph_of regions links) faces (name_at regions k)
  free_at faces k below free r inside name =
      let place = region_place regions r inside in
      let same : place.0 ≡ k = same_place regions place.0 k linked.regions_ascend place.1 below (ap (λ q. q.name) place.2 ∙ name) in
      ap (λ q. bit_and q.faces faces) (sym place.2) ∙ ap (λ j. bit_and (faces_at regions j) faces) same ∙ free

  free_place : (faces k : ℕ) → k < length regions → IsFreeIn (graph_of regions links) faces (name_at regions k)
      → bit_and (faces_at regions k) faces ≡ 0
  free_place faces k below free =
      free (region_at regions k) (Contains-get_or regions k (record { name = 0; faces = 0 }) below) refl

  -- no edge at a region comes before a contact where no link does
  first_at : (k : ℕ) (c : Contact) → k < length regions → NoneBefore links k c → IsFirstAt (graph_of regions links) (name_at regions k) c
  first_at k c below none e inside at_k =
      let found = link_of e inside in let l = found.0 in let is = is_link l found.1 in
      let up = is.ordered in let low = is.inside in
      let a : e.a ≡ name_at regions k → l.a ≡ k = λ same.
      same_place regions l.a k linked.regions_ascend (omega arith) below (ap (λ z. z.a) found.2 ∙ same) in
      let b : e.b ≡ name_at regions k → l.b ≡ k = λ same.
      same_place regions l.b k linked.regions_ascend low below (ap (λ z. z.b) found.2 ∙ same) in
      let at_l : IsAtPlace k l = elim at_k [ inl one ↦ inl (a one) | inr other ↦ inr (b other) ] in
      subst (λ z. ¬ (Before z.contact c)) found.2 (none l found.1 at_l)

  none_before : (k : ℕ) (c : Contact) → IsFirstAt (graph_of regions links) (name_at regions k) c → NoneBefore links k c
  none_before k c first l inside at_l =
      first (edge_by (name_at regions) l) (Contains-map (edge_by (name_at regions)) links l inside)
      (elim at_l [ inl one ↦ inl (ap (name_at regions) one) | inr other ↦ inr (ap (name_at regions) other) ])

  pub reciprocal_edge : (t : Threshold) (faces : ℕ) (l : Link) → IsReciprocalLink t faces regions links l
      → IsReciprocalEdge t faces (graph_of regions links) (edge_by (name_at regions) l)
  reciprocal_edge t faces l pair =
      let is = is_link l pair.there in
      let up = is.ordered in let low = is.inside in
      record {
        there = Contains-map (edge_by (name_at regions)) links l pair.there;
        a_free = free_at faces l.a (omega arith) pair.a_free;
        b_free = free_at faces l.b low pair.b_free;
        reaches = pair.reaches;
        first_of_a = first_at l.a l.contact (omega arith) pair.first_of_a;
        first_of_b = first_at l.b l.contact low pair.first_of_b;
      }

  -- the link of a reciprocal edge is reciprocal
  pub reciprocal_link : (t : Threshold) (faces : ℕ) (e : GraphEdge) → IsReciprocalEdge t faces (graph_of regions links) e
      → (l : Link) × IsReciprocalLink t faces regions links l
  reciprocal_link t faces e pair =
      let found = link_of e pair.there in let l = found.0 in let is = is_link l found.1 in
      let up = is.ordered in let low = is.inside in
      let own = subst (IsReciprocalEdge t faces (graph_of regions links)) (sym found.2) pair in (
        l,
        record {
          there = found.1;
          a_free = free_place faces l.a (omega arith) own.a_free;
          b_free = free_place faces l.b low own.b_free;
          reaches = own.reaches;
          first_of_a = none_before l.a l.contact own.first_of_a;
          first_of_b = none_before l.b l.contact own.first_of_b;
        },
      )

-- the name that a name has after several merges
names_after : List Merge → ℕ → ℕ
names_after [] x = x
names_after (m ∷ merges) x = names_after merges (name_after m x)

edges_after-is : (merges : List Merge) (name : ℕ → ℕ) (links : List Link)
    → edges_after merges (edges_by name links) ≡ edges_by (λ k. names_after merges (name k)) links
unfolding names_after
edges_after-is [] name links = refl
edges_after-is (m ∷ merges) name links =
    ap (edges_after merges) (renamed_once links) ∙ edges_after-is merges (λ k. name_after m (name k)) links
  where
    renamed_once : (ls : List Link) → map (edge_after m) (edges_by name ls) ≡ edges_by (λ k. name_after m (name k)) ls
    renamed_once [] = refl
    renamed_once (l ∷ ls) = ap (λ es. edge_by (λ k. name_after m (name k)) l ∷ es) (renamed_once ls)

kept_of : (s b x : ℕ) → b ≢ x → cond (eqb x b) s x ≡ x
kept_of s b x differ = grind (arith, nat_tests)

taken_of : (s b : ℕ) → cond (eqb b b) s b ≡ s
taken_of s b = grind (arith, nat_tests)

-- a name that no merge takes stays
names_after-stay : (merges : List Merge) (x : ℕ) → ((m : Merge) → Contains merges m → m.absorbed ≢ x) → names_after merges x ≡ x
unfolding names_after
names_after-stay [] x none = refl
names_after-stay (m ∷ merges) x none =
    ap (names_after merges) (kept_of m.survivor m.absorbed x (none m (contains_head m merges)))
    ∙ names_after-stay merges x (λ n later. none n (contains_tail m n merges later))

-- a name that one of the merges takes becomes its survivor
names_after-taken : (merges : List Merge) (m : Merge) → AllPairs ShareNone merges → Contains merges m
    → names_after merges m.absorbed ≡ m.survivor
unfolding names_after
names_after-taken [] m apart inside = absurd (contains_none m inside)
names_after-taken (n ∷ merges) m apart inside =
    by_cases (contains_cases n m merges inside) (names_after-taken merges m (all_pairs_tail ShareNone n merges apart))
  where
    by_cases : (n ≡ m) ⊎ Contains merges m → (Contains merges m → names_after merges m.absorbed ≡ m.survivor)
        → names_after merges (name_after n m.absorbed) ≡ m.survivor
    by_cases (inl same) rest =
        subst (λ z. names_after merges (name_after n z.absorbed) ≡ z.survivor) same
        (ap (names_after merges) (taken_of n.survivor n.absorbed)
        ∙ names_after-stay merges n.survivor (λ k later. (all_pairs_head ShareNone n k merges apart later).absorbed_survivor))
    by_cases (inr later) rest =
        ap (names_after merges) (kept_of n.survivor n.absorbed m.absorbed
        (λ e. (all_pairs_head ShareNone n m merges apart later).absorbed (sym e)))
        ∙ rest later

-- pairs of links that are reciprocal and share no region
module _ (t : Threshold) (faces : ℕ) (regions : List Region) (links : List Link) (mates : List ℕ) (pairs : List Link)
    (linked : AreLinked regions links) (pairing : IsPairing t faces regions links mates pairs) where
  pair_link : (p : Link) → Contains pairs p → IsLink (length regions) p
  pair_link p inside = is_link regions links linked p (All-contains (IsReciprocalLink t faces regions links) pairs p pairing.reciprocal inside).there

  mates_of : (p : Link) → Contains pairs p → AreMates mates p
  mates_of p inside = All-contains (AreMates mates) pairs p pairing.mated inside

  pub AreMutual-pairing : AreMutual mates (length regions)
  AreMutual-pairing = record {
    one_each = pairing.one_each;
    inside = λ k below. elim (pairing.single k below) [
      | inl own ↦ subst (λ z. z < length regions) (sym own) below
      | inr (p, inside, at_k) ↦
          let is = pair_link p inside in let up = is.ordered in let low = is.inside in let m = mates_of p inside in
          elim at_k [
            | inl a ↦ let e = ap (λ z. get_or mates z 0) a in let f = m.of_a in omega arith
            | inr b ↦ let e = ap (λ z. get_or mates z 0) b in let f = m.of_b in omega arith
          ]
    ];
    back = λ k below. elim (pairing.single k below) [
      | inl own ↦ ap (λ z. get_or mates z 0) own ∙ own
      | inr (p, inside, at_k) ↦
          let m = mates_of p inside in
          elim at_k [
            | inl a ↦ ap (λ z. get_or mates (get_or mates z 0) 0) (sym a) ∙ ap (λ z. get_or mates z 0) m.of_a ∙ m.of_b ∙ a
            | inr b ↦ ap (λ z. get_or mates (get_or mates z 0) 0) (sym b) ∙ ap (λ z. get_or mates z 0) m.of_b ∙ m.of_a ∙ b
          ]
    ];
  }

  -- the pair that a merge is of
  pair_of : (m : Merge) → Contains (map (merge_of regions) pairs) m → (p : Link) × Contains pairs p × (merge_of regions p ≡ m)
  pair_of m inside = Contains-unmap (merge_of regions) pairs m inside

  -- a name at the place of a pair's region is that of the place alone
  at_a : (p : Link) (k : ℕ) → Contains pairs p → k < length regions → name_at regions p.a ≡ name_at regions k → p.a ≡ k
  at_a p k inside below same =
      let is = pair_link p inside in let up = is.ordered in let low = is.inside in
      same_place regions p.a k linked.regions_ascend (omega arith) below same

  at_b : (p : Link) (k : ℕ) → Contains pairs p → k < length regions → name_at regions p.b ≡ name_at regions k → p.b ≡ k
  at_b p k inside below same = same_place regions p.b k linked.regions_ascend (pair_link p inside).inside below same

  share_none : AllPairs ShareNone (map (merge_of regions) pairs)
  share_none i j d before below =
      let len = length-map pairs (merge_of regions) in
      let e : Link = record { a = 0; b = 0; contact = d.contact } in
      let p = get_or pairs i e in
      let q = get_or pairs j e in
      let in_p = Contains-get_or pairs i e (omega arith) in
      let in_q = Contains-get_or pairs j e (omega arith) in
      subst (λ z. ShareNone z (get_or (map (merge_of regions) pairs) j d)) (sym (get_or-map (merge_of regions) pairs i e d (omega arith)))
      (subst (ShareNone (merge_of regions p)) (sym (get_or-map (merge_of regions) pairs j e d (omega arith)))
      (apart p q in_p in_q (pairing.apart i j e before (omega arith))))
    where
      apart : (p q : Link) → Contains pairs p → Contains pairs q → ShareNoPlace p q → ShareNone (merge_of regions p) (merge_of regions q)
      apart p q in_p in_q none =
          let is = pair_link p in_p in let up = is.ordered in let low = is.inside in
          record {
            survivors = λ e. none.smaller (at_a q p.a in_q (omega arith) e);
            survivor_absorbed = λ e. none.smaller_greater (at_a q p.b in_q low e);
            absorbed_survivor = λ e. none.greater_smaller (at_b q p.a in_q (omega arith) e);
            absorbed = λ e. none.greater (at_b q p.b in_q low e);
          }

  -- the name of a place after the merges
  name_of_place : (k : ℕ) → k < length regions
      → names_after (map (merge_of regions) pairs) (name_at regions k) ≡ name_at regions (survivor_of mates k)
  name_of_place k below = elim (pairing.single k below) [
    | inl own ↦
        stays own ∙ ap (name_at regions) (alone k (get_or mates k 0) own)
    | inr (p, inside, at_k) ↦
        let is = pair_link p inside in let up = is.ordered in let m = mates_of p inside in
        elim at_k [
          | inl a ↦
              let mate : get_or mates k 0 ≡ p.b = ap (λ z. get_or mates z 0) (sym a) ∙ m.of_a in
              first p inside a mate ∙ ap (name_at regions) (lesser k (get_or mates k 0) (omega arith))
          | inr b ↦
              let mate : get_or mates k 0 ≡ p.a = ap (λ z. get_or mates z 0) (sym b) ∙ m.of_b in
              ap (λ z. names_after (map (merge_of regions) pairs) (name_at regions z)) (sym b)
              ∙ names_after-taken (map (merge_of regions) pairs) (merge_of regions p) share_none (Contains-map (merge_of regions) pairs p inside)
              ∙ ap (name_at regions) (greater p.a k (get_or mates k 0) mate (omega arith))
        ]
  ]
    where
      alone : (k m : ℕ) → m ≡ k → k ≡ min k m
      alone k m same = omega arith

      lesser : (k m : ℕ) → k < m → k ≡ min k m
      lesser k m less = omega arith

      greater : (a k m : ℕ) → m ≡ a → a < k → a ≡ min k m
      greater a k m same less = omega arith

      stays : get_or mates k 0 ≡ k → names_after (map (merge_of regions) pairs) (name_at regions k) ≡ name_at regions k
      stays own = names_after-stay (map (merge_of regions) pairs) (name_at regions k) (λ m inside e.
          let found = pair_of m inside in let q = found.0 in
          let is = pair_link q found.1 in let up = is.ordered in
          let at_k = at_b q k found.1 below (ap (λ z. z.absorbed) found.2 ∙ e) in
          let mate = (mates_of q found.1).of_b in
          let own' = ap (λ z. get_or mates z 0) at_k in
          omega arith)

      first : (p : Link) → Contains pairs p → p.a ≡ k → get_or mates k 0 ≡ p.b
          → names_after (map (merge_of regions) pairs) (name_at regions k) ≡ name_at regions k
      first p in_p a mate_k = names_after-stay (map (merge_of regions) pairs) (name_at regions k) (λ m inside e.
          let found = pair_of m inside in let q = found.0 in
          let is = pair_link q found.1 in let up = is.ordered in
          let is_p = pair_link p in_p in let up_p = is_p.ordered in
          let at_k = at_b q k found.1 below (ap (λ z. z.absorbed) found.2 ∙ e) in
          let mate = (mates_of q found.1).of_b in
          let own' = ap (λ z. get_or mates z 0) at_k in
          omega arith)

  -- the regions and links after the mates were merged
  module _ (kept : List Region) (joined : List Link) (merged : AreMerged regions links mates kept joined) where
    -- what became of the first of two mates
    kept_at : (k : ℕ) → k < length regions → k ≤ get_or mates k 0
        → region_at kept (get_or merged.places k 0)
        ≡ record { name = name_at regions k; faces = bit_or (faces_at regions k) (faces_at regions (get_or mates k 0)) }
    kept_at k below least =
        let first : min k (get_or mates k 0) ≡ k = omega arith in
        let name = merged.survivors.named k below ∙ ap (name_at regions) first in
        let faces = merged.survivors.faced k below least in
        λ i. record { name = name i; faces = faces i }

    kept_there : (k : ℕ) → k < length regions → Contains kept (region_at kept (get_or merged.places k 0))
    kept_there k below = Contains-get_or kept (get_or merged.places k 0) (record { name = 0; faces = 0 }) (merged.survivors.inside k below)

    -- a region that is its own mate is in no pair
    in_none : (k : ℕ) → k < length regions → get_or mates k 0 ≡ k → IsInNone (map (merge_of regions) pairs) (name_at regions k)
    in_none k below own m inside =
        let found = pair_of m inside in let q = found.0 in
        let is = pair_link q found.1 in let up = is.ordered in
        let mate = mates_of q found.1 in (
          λ e. let at_k = at_a q k found.1 below (ap (λ z. z.survivor) found.2 ∙ sym e) in
              let own' = ap (λ z. get_or mates z 0) at_k in let m_a = mate.of_a in omega arith,
          λ e. let at_k = at_b q k found.1 below (ap (λ z. z.absorbed) found.2 ∙ sym e) in
              let own' = ap (λ z. get_or mates z 0) at_k in let m_b = mate.of_b in omega arith,
        )

    both_faces : (p : Link) → Contains pairs p
        → HasBothFaces (graph_of regions links) (merge_of regions p) (bit_or (faces_at regions p.a) (faces_at regions p.b))
    both_faces p inside =
        let is = pair_link p inside in let up = is.ordered in let low = is.inside in
        record {
          own = faces_at regions p.a;
          taken = faces_at regions p.b;
          survivor = Contains-get_or regions p.a (record { name = 0; faces = 0 }) (omega arith);
          absorbed = Contains-get_or regions p.b (record { name = 0; faces = 0 }) low;
          both = refl;
        }

    -- the faces of a region by its place
    faces_by : (k faces : ℕ) → k < length regions → Contains regions (record { name = name_at regions k; faces = faces })
        → faces ≡ faces_at regions k
    faces_by k faces below inside =
        ap (λ r. r.faces) (one_region regions (record { name = name_at regions k; faces = faces }) (region_at regions k)
        linked.regions_ascend inside (Contains-get_or regions k (record { name = 0; faces = 0 }) below) refl)

    region_was : (r : Region) → Contains kept r → IsRegionAfter (graph_of regions links) (map (merge_of regions) pairs) r
    region_was r inside =
        let place = region_place kept r inside in
        let source = merged.survivors.each place.0 place.1 in
        let k = source.0 in
        let is : record { name = name_at regions k; faces = bit_or (faces_at regions k) (faces_at regions (get_or mates k 0)) } ≡ r =
        sym (kept_at k source.1 source.2) ∙ ap (region_at kept) source.3 ∙ place.2 in
        subst (IsRegionAfter (graph_of regions links) (map (merge_of regions) pairs)) is
        (elim (pairing.single k source.1) [
          | inl own ↦
              let same : bit_or (faces_at regions k) (faces_at regions (get_or mates k 0)) ≡ faces_at regions k =
              ap (λ z. bit_or (faces_at regions k) (faces_at regions z)) own ∙ or_self (faces_at regions k) in
              inl (
                subst (λ f. Contains regions (record { name = name_at regions k; faces = f })) (sym same)
                    (Contains-get_or regions k (record { name = 0; faces = 0 }) source.1),
                in_none k source.1 own,
              )
          | inr (p, in_p, at_k) ↦
              let link = pair_link p in_p in let up = link.ordered in let mate = mates_of p in_p in
              elim at_k [
                | inl a ↦
                    inr (
                      merge_of regions p,
                      Contains-map (merge_of regions) pairs p in_p,
                      ap (name_at regions) (sym a),
                      subst (HasBothFaces (graph_of regions links) (merge_of regions p))
                          ((λ i. bit_or (faces_at regions (a i)) (faces_at regions (sym mate.of_a i)))
                          ∙ ap (λ z. bit_or (faces_at regions k) (faces_at regions (get_or mates z 0))) a) (both_faces p in_p),
                    )
                | inr b ↦
                    let own = ap (λ z. get_or mates z 0) b in let m_b = mate.of_b in let least = source.2 in absurd (omega arith)
              ]
        ])

    region_is : (r : Region) → IsRegionAfter (graph_of regions links) (map (merge_of regions) pairs) r → Contains kept r
    region_is r (inl (inside, none)) =
        let place = region_place regions r inside in
        let k = place.0 in
        elim (pairing.single k place.1) [
          | inl own ↦
              let same : record { name = name_at regions k; faces = bit_or (faces_at regions k) (faces_at regions (get_or mates k 0)) } ≡ r =
              (λ i. record {
                name = name_at regions k;
                faces = (ap (λ z. bit_or (faces_at regions k) (faces_at regions z)) own
                    ∙ or_self (faces_at regions k)) i;
              }) ∙ place.2 in
              subst (Contains kept) (kept_at k place.1 (omega arith) ∙ same) (kept_there k place.1)
          | inr (p, in_p, at_k) ↦
              let named = none (merge_of regions p) (Contains-map (merge_of regions) pairs p in_p) in
              let name : r.name ≡ name_at regions k = ap (λ q. q.name) (sym place.2) in
              elim at_k [
                | inl a ↦ absurd (named.0 (name ∙ ap (name_at regions) (sym a)))
                | inr b ↦ absurd (named.1 (name ∙ ap (name_at regions) (sym b)))
              ]
        ]
    region_is r (inr (m, in_m, name, both)) =
        let found = pair_of m in_m in
        let p = found.0 in
        let is = pair_link p found.1 in let up = is.ordered in let low = is.inside in
        let mate = mates_of p found.1 in
        let a_in : p.a < length regions = omega arith in
        let least : p.a ≤ get_or mates p.a 0 = let m_a = mate.of_a in omega arith in
        let own = faces_by p.a both.own a_in
        (subst (λ z. Contains regions (record { name = z.survivor; faces = both.own })) (sym found.2) both.survivor) in
        let taken = faces_by p.b both.taken low
        (subst (λ z. Contains regions (record { name = z.absorbed; faces = both.taken })) (sym found.2) both.absorbed) in
        let faces : bit_or (faces_at regions p.a) (faces_at regions (get_or mates p.a 0)) ≡ r.faces =
        (λ i. bit_or (sym own i) (faces_at regions (mate.of_a i))) ∙ (λ i. bit_or both.own (sym taken i)) ∙ sym both.both in
        let named : name_at regions p.a ≡ r.name = ap (λ z. z.survivor) found.2 ∙ sym name in
        subst (Contains kept) (kept_at p.a a_in least ∙ (λ i. record { name = named i; faces = faces i })) (kept_there p.a a_in)

    pub pairs_are_round : IsRound t faces (graph_of regions links) (map (merge_of regions) pairs) (graph_of kept joined)
    pairs_are_round = record {
      is = linked_graph regions links linked;
      reciprocal = λ m inside.
          let found = pair_of m inside in
          subst (λ z. IsReciprocalEdge t faces (graph_of regions links) (edge_of z)) found.2
          (reciprocal_edge regions links linked t faces found.0
          (All-contains (IsReciprocalLink t faces regions links) pairs found.0 pairing.reciprocal found.1));
      apart = share_none;
      after_all = record {
        graph_is = linked_graph kept joined merged.linked;
        regions = λ r. (region_was r, region_is r);
        contacts = λ past x y xy.
            merged.contacts past x y xy
            ∙ ap (λ es. contact_in past es x y)
            (edges_by-agree (length regions) (λ k. name_at regions (survivor_of mates k))
            (λ k. names_after (map (merge_of regions) pairs) (name_at regions k)) links linked.links_are.each
            (λ k below. sym (name_of_place k below))
            ∙ sym (edges_after-is (map (merge_of regions) pairs) (name_at regions) links));
      };
    }

-- where there are pairs, their merges lead on, and regions get fewer
pub pairs_lead : (t : Threshold) (faces : ℕ) (regions : List Region) (links : List Link) (mates : List ℕ) (pairs : List Link)
    (kept : List Region) (joined : List Link) → AreLinked regions links → IsPairing t faces regions links mates pairs
    → AreMerged regions links mates kept joined → 0 < length pairs
    → Leads t faces (graph_of regions links) (map (merge_of regions) pairs) (graph_of kept joined)
pairs_lead t faces regions links mates [] kept joined linked pairing merged some = absurd (omega arith)
pairs_lead t faces regions links mates (p ∷ pairs) kept joined linked pairing merged some =
    round_leads t faces (graph_of regions links) (merge_of regions p) (map (merge_of regions) pairs) (graph_of kept joined)
    (pairs_are_round t faces regions links mates (p ∷ pairs) linked pairing kept joined merged)

pub fewer_regions : (t : Threshold) (faces : ℕ) (regions : List Region) (links : List Link) (mates : List ℕ) (pairs : List Link)
    (kept : List Region) (joined : List Link) → AreLinked regions links → IsPairing t faces regions links mates pairs
    → AreMerged regions links mates kept joined → 0 < length pairs → length kept < length regions
fewer_regions t faces regions links mates [] kept joined linked pairing merged some = absurd (omega arith)
fewer_regions t faces regions links mates (p ∷ pairs) kept joined linked pairing merged some =
    let inside = contains_head p pairs in
    let is = is_link regions links linked p (All-contains (IsReciprocalLink t faces regions links) (p ∷ pairs) p pairing.reciprocal inside).there in
    let up = is.ordered in
    let mate = (All-contains (AreMates mates) (p ∷ pairs) p pairing.mated inside).of_b in
    merged.survivors.fewer p.b is.inside (omega arith)

-- where there is none, no edge is reciprocal
pub none_reciprocal : (t : Threshold) (faces : ℕ) (regions : List Region) (links : List Link) (mates : List ℕ) (pairs : List Link)
    → AreLinked regions links → IsPairing t faces regions links mates pairs → length pairs ≡ 0
    → (e : GraphEdge) → ¬ (IsReciprocalEdge t faces (graph_of regions links) e)
none_reciprocal t faces regions links mates pairs linked pairing none e pair =
    let found = reciprocal_link regions links linked t faces e pair in
    pairing.complete (nil_from_length pairs none) found.0 found.1
