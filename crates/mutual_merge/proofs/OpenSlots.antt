-- The slots and links that stand for a graph: a live link alone between two slots is an edge, and no edge at a region comes
-- before a contact that no live link at its slot comes before.
use Rattle.std.proofs.Common.{◌≡◌, ◌≢◌, ◌⊎◌, inl, inr, ℕ, ◌+◌, ◌<◌, ◌≤◌, min, max, Bool, true, List, length, refl, sym, ap, ◌∙◌, subst, arith}
use Rattle.std.specs.Prelude.{Contains, bit_and}
use Rattle.std.proofs.lemmas.Bool.{false≢true}
use Rattle.std.proofs.lemmas.List.{get_or_past}
use Rattle.std.proofs.lemmas.List.Elements.{All-contains}
use Rattle.agglo_model.specs.PairOrder.{Contact, Threshold, Before, added}
use Rattle.agglo_model.specs.RegionGraph.{Region, RegionGraph, is_between, no_contact, contact_in}
use Rattle.agglo_model.specs.Settling.{IsFreeIn, IsReciprocalEdge, edge_of}
use Rattle.agglo_model.proofs.Members.{Contains-unmap}
use Rattle.agglo_model.proofs.GraphContacts.{joint, contact_in-is}
use Rattle.agglo_model.proofs.GraphEdges.{between_itself, between_names, edge_contact-low, edge_there}
use Rattle.agglo_model.proofs.GraphFirsts.{IsFirstAt}
use Rattle.agglo_model.proofs.GraphMerges.{contact_in-swap}
use Rattle.mutual_merge.specs.declared.links.Link.{Link}
use Rattle.mutual_merge.specs.Linked.{IsAtPlace, region_at, name_at, faces_at, edge_by, edges_by}
use Rattle.mutual_merge.specs.Slots.{IsLive, IsLiveAt, IsOpen, IsReciprocalAt, IsSlotLink, Joins, Stands, merge_at, nth_link}
use Rattle.mutual_merge.proofs.SlotContacts.{Contains-nth_link, index_of, joint-not_before, joint-only}

pub order_cases : (p q : ℕ) → ((min p q ≡ p) × (max p q ≡ q)) ⊎ ((min p q ≡ q) × (max p q ≡ p))
order_cases p q = grind arith

of_both : (P : ℕ → Type 0) (p q : ℕ) → P p → P q → P (min p q) × P (max p q)
of_both P p q at_p at_q = elim (order_cases p q) [
  | inl (low, high) ↦ (subst P (sym low) at_p, subst P (sym high) at_q)
  | inr (low, high) ↦ (subst P (sym low) at_q, subst P (sym high) at_p)
]

within_cases : (k n : ℕ) → (k < n) ⊎ (n ≤ k)
within_cases k n = grind arith

pub open_within : (closed : List Bool) (k : ℕ) → IsOpen closed k → k < length closed
open_within closed k is_open = elim (within_cases k (length closed)) [
  | inl below ↦ below
  | inr past ↦ absurd (false≢true (sym is_open ∙ get_or_past closed k true past))
]

module _ (graph : RegionGraph) (regions : List Region) (closed : List Bool) (links : List Link)
    (stands : Stands graph regions closed links) where
  pub open_below : (k : ℕ) → IsOpen closed k → k < length regions
  open_below k is_open = let low = open_within closed k is_open in let len = stands.slots.one_each in omega arith

  pub region_there : (k : ℕ) → IsOpen closed k → Contains graph.regions (region_at regions k)
  region_there k is_open = (stands.regions_are (region_at regions k)).1 (k, open_below k is_open, is_open, refl)

  free_at : (faces k : ℕ) → IsOpen closed k → bit_and (faces_at regions k) faces ≡ 0 → IsFreeIn graph faces (name_at regions k)
  free_at faces k is_open free r inside name =
      let slot = (stands.regions_are r).0 inside in
      let same = stands.slots.apart slot.0 k slot.2 is_open (ap (λ q. q.name) slot.3 ∙ name) in
      ap (λ q. bit_and q.faces faces) (sym slot.3) ∙ ap (λ j. bit_and (faces_at regions j) faces) same ∙ free

  -- a link whose slots have two different names is live, so both are open
  live_by_names : (l : Link) (x y : ℕ) → x ≢ y → ((name_at regions l.a ≡ x) × (name_at regions l.b ≡ y)) ⊎ ((name_at regions l.a ≡ y) × (name_at regions l.b ≡ x))
      → IsLive l
  live_by_names l x y xy (inl (at_a, at_b)) same = xy (sym at_a ∙ ap (name_at regions) same ∙ at_b)
  live_by_names l x y xy (inr (at_a, at_b)) same = xy (sym at_b ∙ sym (ap (name_at regions) same) ∙ at_a)

  joins_by_names : (l : Link) (j k : ℕ) → Contains links l → IsOpen closed j → IsOpen closed k → name_at regions j ≢ name_at regions k
      → is_between (name_at regions j) (name_at regions k) (edge_by (name_at regions) l) ≡ true → Joins j k l
  joins_by_names l j k inside open_j open_k jk pass =
      let names = between_names (name_at regions j) (name_at regions k) (edge_by (name_at regions) l) pass in
      let ends = stands.slots.open_ends l inside (live_by_names l (name_at regions j) (name_at regions k) jk names) in
      elim names [
        | inl (at_a, at_b) ↦ inl (stands.slots.apart l.a j ends.0 open_j at_a, stands.slots.apart l.b k ends.1 open_k at_b)
        | inr (at_a, at_b) ↦ inr (stands.slots.apart l.a k ends.0 open_k at_a, stands.slots.apart l.b j ends.1 open_j at_b)
      ]

  live_at : (l : Link) (k x y : ℕ) → Contains links l → IsOpen closed k → x ≢ y
      → is_between x y (edge_by (name_at regions) l) ≡ true → (x ≡ name_at regions k) ⊎ (y ≡ name_at regions k) → IsLiveAt k l
  live_at l k x y inside is_open xy pass at_k =
      let names = between_names x y (edge_by (name_at regions) l) pass in
      let live = live_by_names l x y xy names in
      let ends = stands.slots.open_ends l inside live in
      record { live = live; at_slot = slot ends.0 ends.1 names at_k }
    where
      slot : IsOpen closed l.a → IsOpen closed l.b
          → ((name_at regions l.a ≡ x) × (name_at regions l.b ≡ y)) ⊎ ((name_at regions l.a ≡ y) × (name_at regions l.b ≡ x))
          → (x ≡ name_at regions k) ⊎ (y ≡ name_at regions k) → IsAtPlace k l
      slot a b (inl (at_a, at_b)) (inl at_x) = inl (stands.slots.apart l.a k a is_open (at_a ∙ at_x))
      slot a b (inl (at_a, at_b)) (inr at_y) = inr (stands.slots.apart l.b k b is_open (at_b ∙ at_y))
      slot a b (inr (at_a, at_b)) (inl at_x) = inr (stands.slots.apart l.b k b is_open (at_b ∙ at_x))
      slot a b (inr (at_a, at_b)) (inr at_y) = inl (stands.slots.apart l.a k a is_open (at_a ∙ at_y))

  first_at : (k : ℕ) (c : Contact) → IsOpen closed k
      → ((j : ℕ) → j < length links → IsLiveAt k (nth_link links j) → ¬ (Before (nth_link links j).contact c))
      → IsFirstAt graph (name_at regions k) c
  first_at k c is_open each f inside at_k before =
      let past = f.contact.tie + c.tie in
      let up = stands.graph_is.ordered f inside in
      let differ : f.a ≢ f.b = λ e. absurd (omega arith) in
      let sum : joint past (is_between f.a f.b) (edges_by (name_at regions) links) ≡ f.contact =
      sym (contact_in-is past f.a f.b (edges_by (name_at regions) links)) ∙ sym (stands.contacts past f.a f.b differ)
      ∙ edge_contact-low graph stands.graph_is past f inside (omega arith) in
      joint-not_before past (is_between f.a f.b) (edges_by (name_at regions) links) c (omega arith)
      (λ e in_e pass.
      let found = Contains-unmap (edge_by (name_at regions)) links e in_e in
      let at_j = index_of links found.0 found.1 in
      let live = live_at found.0 k f.a f.b found.1 is_open differ (ap (is_between f.a f.b) found.2 ∙ pass) at_k in
      subst (λ z. ¬ (Before z.contact c)) found.2
      (subst (λ l. ¬ (Before l.contact c)) at_j.2 (each at_j.0 at_j.1 (subst (IsLiveAt k) (sym at_j.2) live))))
      (subst (λ d. Before d c) (sym sum) before)

  -- a reciprocal link
  module _ (t : Threshold) (faces i : ℕ) (pair : IsReciprocalAt t faces regions links i) where
    pub open_pair : IsOpen closed (nth_link links i).a × IsOpen closed (nth_link links i).b
    open_pair = stands.slots.open_ends (nth_link links i) (Contains-nth_link links i pair.there) pair.live

    names_differ : name_at regions (nth_link links i).a ≢ name_at regions (nth_link links i).b
    names_differ same = pair.live (stands.slots.apart (nth_link links i).a (nth_link links i).b open_pair.0 open_pair.1 same)

    pair_contact : (past : ℕ) → contact_in past graph.edges (name_at regions (nth_link links i).a) (name_at regions (nth_link links i).b)
        ≡ added (nth_link links i).contact (no_contact past)
    pair_contact past =
        let x = name_at regions (nth_link links i).a in
        let y = name_at regions (nth_link links i).b in
        stands.contacts past x y names_differ
        ∙ contact_in-is past x y (edges_by (name_at regions) links)
        ∙ joint-only past (is_between x y) (edge_by (name_at regions)) links i pair.there
        (between_itself (edge_by (name_at regions) (nth_link links i)))
        (λ j low pass. pair.single j low (joins_by_names (nth_link links j) (nth_link links i).a (nth_link links i).b
        (Contains-nth_link links j low) open_pair.0 open_pair.1 names_differ pass))

    merge_contact : (past : ℕ) (x y : ℕ) → contact_in past graph.edges x y ≡ added (nth_link links i).contact (no_contact past)
        → contact_in past graph.edges (min x y) (max x y) ≡ added (nth_link links i).contact (no_contact past)
    merge_contact past x y same = elim (order_cases x y) [
      | inl (low, high) ↦ (λ j. contact_in past graph.edges (low j) (high j)) ∙ same
      | inr (low, high) ↦ (λ j. contact_in past graph.edges (low j) (high j)) ∙ contact_in-swap past y x graph.edges ∙ same
    ]

    less : (x y : ℕ) → x ≢ y → min x y < max x y
    less x y xy = grind arith

    pub reciprocal_there : Contains graph.edges (edge_of (merge_at regions (nth_link links i)))
    reciprocal_there =
        let l = nth_link links i in
        edge_there graph stands.graph_is (edge_of (merge_at regions l)) (less (name_at regions l.a) (name_at regions l.b) names_differ)
        (All-contains (IsSlotLink (length regions)) links l stands.slots.links_are.each (Contains-nth_link links i pair.there)).touching
        (λ past. merge_contact past (name_at regions l.a) (name_at regions l.b) (pair_contact past))

    pub reciprocal_at : IsReciprocalEdge t faces graph (edge_of (merge_at regions (nth_link links i)))
    reciprocal_at =
        let l = nth_link links i in
        let free = of_both (IsFreeIn graph faces) (name_at regions l.a) (name_at regions l.b)
        (free_at faces l.a open_pair.0 pair.a_free) (free_at faces l.b open_pair.1 pair.b_free) in
        let first = of_both (λ x. IsFirstAt graph x l.contact) (name_at regions l.a) (name_at regions l.b)
        (first_at l.a l.contact open_pair.0 (λ j low at_a. pair.first j low (inl at_a)))
        (first_at l.b l.contact open_pair.1 (λ j low at_b. pair.first j low (inr at_b))) in
        record {
          there = reciprocal_there;
          a_free = free.0;
          b_free = free.1;
          reaches = pair.reaches;
          first_of_a = first.0;
          first_of_b = first.1;
        }
