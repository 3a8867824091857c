-- When the region of one slot is taken into that of another, the slots and links become the graph after the merge of the two.
use Rattle.std.proofs.Common.{◌≡◌, ◌≢◌, ◌⊎◌, inl, inr, ℕ, ◌<◌, ◌≤◌, min, max, Bool, true, false, cond, eqb, List, length, get_or, refl, sym, ap, ◌∙◌, subst, arith, length-set, get_or-set_same, get_or-set_other}
use Rattle.std.specs.Prelude.{map, All, Contains, bit_or}
use Rattle.std.proofs.Math.ListN.{set}
use Rattle.std.proofs.lemmas.Bool.{cases_eq, false≢true}
use Rattle.std.proofs.lemmas.Bool.Decides.{nat_tests}
use Rattle.std.proofs.lemmas.Nat.{or_comm}
use Rattle.std.proofs.lemmas.List.Elements.{All-contains, All-from_get_or}
use Rattle.agglo_model.specs.PairOrder.{Threshold}
use Rattle.agglo_model.specs.Contacts.{are}
use Rattle.agglo_model.specs.Greedy.{Merge}
use Rattle.agglo_model.specs.RegionGraph.{Region, RegionGraph, is_between, contact_in}
use Rattle.agglo_model.specs.Settling.{HasBothFaces, IsGraphAfter, IsReciprocalEdge, edge_after, edge_of, name_after}
use Rattle.agglo_model.proofs.GraphAfter.{after_exists}
use Rattle.agglo_model.proofs.GraphContacts.{contact_in-is, joint-map}
use Rattle.agglo_model.proofs.GraphMerges.{SameContacts-after}
use Rattle.agglo_model.proofs.RegionLists.{one_region}
use Rattle.mutual_merge.specs.declared.links.Link.{Link}
use Rattle.mutual_merge.specs.Linked.{region_at, name_at, faces_at, edge_by, edges_by}
use Rattle.mutual_merge.specs.Slots.{AreSlots, HasOpen, HaveMovedEnds, IsLive, IsOpen, IsReciprocalAt, IsSlotLink, IsTakenOver, Joins, Stands, both_regions, link_after, live_edges, merge_at, nth_link, slot_after}
use Rattle.mutual_merge.proofs.OpenSlots.{open_below, open_pair, open_within, order_cases, reciprocal_at, reciprocal_there, region_there}
use Rattle.mutual_merge.proofs.SlotContacts.{Contains-nth_link, index_of, joint-alike, sums_below}

pub slot_taken : (from to k : ℕ) → k ≡ from → slot_after from to k ≡ to
slot_taken from to k same = grind (arith, nat_tests)

pub slot_kept : (from to k : ℕ) → k ≢ from → slot_after from to k ≡ k
slot_kept from to k differ = grind (arith, nat_tests)

slot_inside : (from to n k : ℕ) → to < n → k < n → slot_after from to k < n
slot_inside from to n k in_to in_k = elim (cases_eq k from) [
  | inl at_from ↦ subst (λ z. z < n) (sym (slot_taken from to k at_from)) in_to
  | inr kf ↦ subst (λ z. z < n) (sym (slot_kept from to k kf)) in_k
]

name_taken : (s b x : ℕ) → (x ≡ s) ⊎ (x ≡ b) → cond (eqb x b) s x ≡ s
name_taken s b x one = grind (arith, nat_tests)

name_kept : (s b x : ℕ) → x ≢ b → cond (eqb x b) s x ≡ x
name_kept s b x differ = grind (arith, nat_tests)

same_ends : (p q x y : ℕ) → p ≡ q → x ≢ y → are p q x y ≡ false
same_ends p q x y same xy = grind (arith, nat_tests)

-- the edges of the grid that a link has, where it is not gone
abbrev count_of : Link → ℕ
count_of l = cond (eqb l.a l.b) 0 l.contact.count

-- what becomes of links when those that ended at one slot end at another
module _ (from to : ℕ) (links new_links : List Link) (moved : HaveMovedEnds from to links new_links) where
  -- each link is as it was, or has its new ends
  new_link : (j : ℕ) → j < length links
      → ((nth_link new_links j ≡ nth_link links j) × ((nth_link links j).a ≡ (nth_link links j).b))
      ⊎ ((nth_link new_links j ≡ link_after from to (nth_link links j)) × IsLive (nth_link links j))
  new_link j low = elim (cases_eq (nth_link links j).a (nth_link links j).b) [
    | inl gone ↦ inl (moved.gone j low (λ live. live gone), gone)
    | inr live ↦ inr (moved.live j low live, live)
  ]

  pub moved-fewer : live_edges new_links ≤ live_edges links
  moved-fewer = sums_below count_of new_links links moved.one_each (λ j below.
      let low : j < length links = let len = moved.one_each in omega arith in
      let l = nth_link links j in
      elim (new_link j low) [
        | inl (same, gone) ↦ subst (λ z. count_of z ≤ count_of l) (sym same) (omega arith)
        | inr (after, live) ↦
            subst (λ z. count_of z ≤ count_of l) (sym after)
            (no_more (slot_after from to l.a) (slot_after from to l.b) l.a l.b l.contact.count live)
      ])
    where
      no_more : (p q a b n : ℕ) → a ≢ b → cond (eqb p q) 0 n ≤ cond (eqb a b) 0 n
      no_more p q a b n ab = grind (arith, nat_tests)

  -- the new ends are slots too
  pub moved-inside : (n : ℕ) → to < n → All (IsSlotLink n) links → All (IsSlotLink n) new_links
  moved-inside n in_to each = All-from_get_or (IsSlotLink n) new_links
      (record { a = 0; b = 0; contact = record { sum = 0; count = 1; tie = 0 } }) (λ j below.
      let low : j < length links = let len = moved.one_each in omega arith in
      let is : IsSlotLink n (nth_link links j) = All-contains (IsSlotLink n) links (nth_link links j) each (Contains-nth_link links j low) in
      elim (new_link j low) [
        | inl (same, gone) ↦ subst (IsSlotLink n) (sym same) is
        | inr (after, live) ↦ subst (IsSlotLink n) (sym after) (record {
          a_inside = slot_inside from to n (nth_link links j).a in_to is.a_inside;
          b_inside = slot_inside from to n (nth_link links j).b in_to is.b_inside;
          touching = is.touching;
        })
      ])

-- two open slots, and the merge of their regions
record AreMerging (regions : List Region) (closed : List Bool) (from to : ℕ) (m : Merge) : Type 0 where
  from_open : IsOpen closed from
  to_open : IsOpen closed to
  survivor_is : m.survivor ≡ min (name_at regions to) (name_at regions from)
  absorbed_is : m.absorbed ≡ max (name_at regions to) (name_at regions from)

abbrev IsEither : Merge → ℕ → Type 0
IsEither m x = (x ≡ m.survivor) ⊎ (x ≡ m.absorbed)

module _ (graph : RegionGraph) (regions : List Region) (closed : List Bool) (links : List Link) (from to : ℕ) (m : Merge)
    (new_regions : List Region) (new_closed : List Bool) (new_links : List Link) (stands : Stands graph regions closed links)
    (merging : AreMerging regions closed from to m)
    (taken : IsTakenOver from to regions closed links new_regions new_closed new_links) (differ : from ≢ to) where
  -- the slots that are open then
  still_open : (k : ℕ) → k ≢ from → IsOpen closed k → IsOpen new_closed k
  still_open k other is_open =
      ap (λ bs. get_or bs k true) taken.closed_are ∙ get_or-set_other closed from k true true other ∙ is_open

  not_from : (k : ℕ) → IsOpen new_closed k → k ≢ from
  not_from k is_open same =
      false≢true (sym is_open ∙ ap (λ bs. get_or bs k true) taken.closed_are ∙ ap (λ j. get_or (set closed from true) j true) same
      ∙ get_or-set_same closed from true true (open_within closed from merging.from_open))

  was_open : (k : ℕ) → IsOpen new_closed k → IsOpen closed k
  was_open k is_open =
      sym (get_or-set_other closed from k true true (not_from k is_open)) ∙ sym (ap (λ bs. get_or bs k true) taken.closed_are)
      ∙ is_open

  to_still : IsOpen new_closed to
  to_still = still_open to (λ e. differ (sym e)) merging.to_open

  -- the regions of slots then
  region_kept : (k : ℕ) → k ≢ to → region_at new_regions k ≡ region_at regions k
  region_kept k other =
      ap (λ rs. region_at rs k) taken.regions_are
      ∙ get_or-set_other regions to k (both_regions (region_at regions to) (region_at regions from)) (record { name = 0; faces = 0 }) other

  region_both : region_at new_regions to ≡ both_regions (region_at regions to) (region_at regions from)
  region_both =
      ap (λ rs. region_at rs to) taken.regions_are
      ∙ get_or-set_same regions to (both_regions (region_at regions to) (region_at regions from)) (record { name = 0; faces = 0 })
      (open_below graph regions closed links stands to merging.to_open)

  name_both : name_at new_regions to ≡ m.survivor
  name_both = ap (λ r. r.name) region_both ∙ sym merging.survivor_is

  both_names : IsEither m (name_at regions to) × IsEither m (name_at regions from)
  both_names = pick (name_at regions to) (name_at regions from) m.survivor m.absorbed merging.survivor_is merging.absorbed_is
    where
      pick : (p q s b : ℕ) → s ≡ min p q → b ≡ max p q → ((p ≡ s) ⊎ (p ≡ b)) × ((q ≡ s) ⊎ (q ≡ b))
      pick p q s b low high = elim (order_cases p q) [
        | inl (l, h) ↦ (inl (sym (low ∙ l)), inr (sym (high ∙ h)))
        | inr (l, h) ↦ (inr (sym (high ∙ h)), inl (sym (low ∙ l)))
      ]

  -- the name of any other slot is none of the merge
  other_name : (k : ℕ) → IsOpen closed k → k ≢ from → k ≢ to → (name_at regions k ≢ m.survivor) × (name_at regions k ≢ m.absorbed)
  other_name k is_open kf kt =
      neither (name_at regions to) (name_at regions from) m.survivor m.absorbed (name_at regions k)
      merging.survivor_is merging.absorbed_is
      (λ e. kt (stands.slots.apart k to is_open merging.to_open e)) (λ e. kf (stands.slots.apart k from is_open merging.from_open e))
    where
      neither : (p q s b x : ℕ) → s ≡ min p q → b ≡ max p q → x ≢ p → x ≢ q → (x ≢ s) × (x ≢ b)
      neither p q s b x low high xp xq = elim (order_cases p q) [
        | inl (l, h) ↦ (λ e. xp (e ∙ low ∙ l), λ e. xq (e ∙ high ∙ h))
        | inr (l, h) ↦ (λ e. xq (e ∙ low ∙ l), λ e. xp (e ∙ high ∙ h))
      ]

  -- the name of the slot that a slot becomes is the name after the merge
  name_moved : (k : ℕ) → IsOpen closed k → name_at new_regions (slot_after from to k) ≡ name_after m (name_at regions k)
  name_moved k is_open = elim (cases_eq k from) [
    | inl at_from ↦
        ap (name_at new_regions) (slot_taken from to k at_from) ∙ name_both
        ∙ sym (name_taken m.survivor m.absorbed (name_at regions k) (subst (λ j. IsEither m (name_at regions j)) (sym at_from) both_names.1))
    | inr not_at_from ↦ ap (name_at new_regions) (slot_kept from to k not_at_from) ∙ kept not_at_from (cases_eq k to)
  ]
    where
      kept : k ≢ from → (k ≡ to) ⊎ (k ≢ to) → name_at new_regions k ≡ name_after m (name_at regions k)
      kept kf (inl at_to) =
          ap (name_at new_regions) at_to ∙ name_both
          ∙ sym (name_taken m.survivor m.absorbed (name_at regions k) (subst (λ j. IsEither m (name_at regions j)) (sym at_to) both_names.0))
      kept kf (inr kt) =
          ap (λ r. r.name) (region_kept k kt)
          ∙ sym (name_kept m.survivor m.absorbed (name_at regions k) (other_name k is_open kf kt).1)

  -- different slots keep different names
  apart_then : (j k : ℕ) → IsOpen new_closed j → IsOpen new_closed k → name_at new_regions j ≡ name_at new_regions k → j ≡ k
  apart_then j k open_j open_k same = elim (cases_eq j to) [
    | inl j_to ↦ elim (cases_eq k to) [
      | inl k_to ↦ j_to ∙ sym k_to
      | inr kt ↦ absurd (alone k open_k kt (ap (λ r. r.name) (sym (region_kept k kt)) ∙ sym same ∙ ap (name_at new_regions) j_to ∙ name_both))
    ]
    | inr jt ↦ elim (cases_eq k to) [
      | inl k_to ↦ absurd (alone j open_j jt (ap (λ r. r.name) (sym (region_kept j jt)) ∙ same ∙ ap (name_at new_regions) k_to ∙ name_both))
      | inr kt ↦
          stands.slots.apart j k (was_open j open_j) (was_open k open_k)
          (ap (λ r. r.name) (sym (region_kept j jt)) ∙ same ∙ ap (λ r. r.name) (region_kept k kt))
    ]
  ]
    where
      alone : (k : ℕ) → IsOpen new_closed k → k ≢ to → name_at regions k ≢ m.survivor
      alone k is_open kt = (other_name k (was_open k is_open) (not_from k is_open) kt).0

  same_length : length new_links ≡ length links
  same_length = taken.links_are.one_each

  ends : (j : ℕ) → j < length links → IsLive (nth_link links j) → IsOpen closed (nth_link links j).a × IsOpen closed (nth_link links j).b
  ends j low live = stands.slots.open_ends (nth_link links j) (Contains-nth_link links j low) live

  slot_moved : (k : ℕ) → IsOpen closed k → IsOpen new_closed (slot_after from to k)
  slot_moved k is_open = elim (cases_eq k from) [
    | inl at_from ↦ subst (IsOpen new_closed) (sym (slot_taken from to k at_from)) to_still
    | inr kf ↦ subst (IsOpen new_closed) (sym (slot_kept from to k kf)) (still_open k kf is_open)
  ]

  links_inside : All (IsSlotLink (length new_regions)) new_links
  links_inside =
      subst (λ n. All (IsSlotLink n) new_links) (sym same_regions)
      (moved-inside from to links new_links taken.links_are (length regions)
      (open_below graph regions closed links stands to merging.to_open) stands.slots.links_are.each)
    where
      same_regions : length new_regions ≡ length regions
      same_regions = ap length taken.regions_are ∙ length-set regions to (both_regions (region_at regions to) (region_at regions from))

  open_then : (l : Link) → Contains new_links l → IsLive l → IsOpen new_closed l.a × IsOpen new_closed l.b
  open_then l inside live =
      let found = index_of new_links l inside in
      let j = found.0 in
      let low : j < length links = let len = same_length in omega (arith, found.1) in
      elim (new_link from to links new_links taken.links_are j low) [
        | inl (same, gone) ↦ absurd (live (subst (λ z. z.a ≡ z.b) (sym same ∙ found.2) gone))
        | inr (moved, old_live) ↦
            let both = ends j low old_live in
            subst (λ z. IsOpen new_closed z.a × IsOpen new_closed z.b) (sym moved ∙ found.2)
            (slot_moved (nth_link links j).a both.0, slot_moved (nth_link links j).b both.1)
      ]

  slots_then : AreSlots new_regions new_closed new_links
  slots_then = record {
    one_each =
        ap length taken.closed_are ∙ length-set closed from true ∙ stands.slots.one_each
        ∙ sym (ap length taken.regions_are ∙ length-set regions to (both_regions (region_at regions to) (region_at regions from)));
    apart = apart_then;
    links_are = record { each = links_inside; within = let fewer = moved-fewer from to links new_links taken.links_are in let w = stands.slots.links_are.within in omega arith };
    open_ends = open_then;
  }

  -- the contacts of links with their new ends are those after the merge
  module _ (past x y : ℕ) (xy : x ≢ y) where
    tests_alike : (j : ℕ) → j < length links
        → is_between x y (edge_after m (edge_by (name_at regions) (nth_link links j)))
        ≡ is_between x y (edge_by (name_at new_regions) (nth_link new_links j))
    tests_alike j low = elim (new_link from to links new_links taken.links_are j low) [
      | inl (same, gone) ↦
          let l = nth_link links j in
          same_ends (name_after m (name_at regions l.a)) (name_after m (name_at regions l.b)) x y (ap (λ k. name_after m (name_at regions k)) gone) xy
          ∙ sym (same_ends (name_at new_regions l.a) (name_at new_regions l.b) x y (ap (name_at new_regions) gone) xy)
          ∙ ap (λ z. is_between x y (edge_by (name_at new_regions) z)) (sym same)
      | inr (moved, live) ↦
          let l = nth_link links j in
          let both = ends j low live in
          (λ i. are (sym (name_moved l.a both.0) i) (sym (name_moved l.b both.1) i) x y)
          ∙ ap (λ z. is_between x y (edge_by (name_at new_regions) z)) (sym moved)
    ]

    contacts_alike : (j : ℕ) → j < length links → (nth_link links j).contact ≡ (nth_link new_links j).contact
    contacts_alike j low = elim (new_link from to links new_links taken.links_are j low) [
      | inl (same, gone) ↦ ap (λ l. l.contact) (sym same)
      | inr (moved, live) ↦ ap (λ l. l.contact) (sym moved)
    ]

    links_after : contact_in past (map (edge_after m) (edges_by (name_at regions) links)) x y
        ≡ contact_in past (edges_by (name_at new_regions) new_links) x y
    links_after =
        contact_in-is past x y (map (edge_after m) (edges_by (name_at regions) links))
        ∙ joint-map past (is_between x y) (edge_after m) (edges_by (name_at regions) links) (λ e. refl)
        ∙ joint-alike past (λ e. is_between x y (edge_after m e)) (is_between x y) (edge_by (name_at regions))
        (edge_by (name_at new_regions)) links new_links (sym same_length) tests_alike contacts_alike
        ∙ sym (contact_in-is past x y (edges_by (name_at new_regions) new_links))

  survivor_apart : m.survivor ≢ m.absorbed
  survivor_apart same =
      differ (stands.slots.apart from to merging.from_open merging.to_open
      (equal (name_at regions to) (name_at regions from) (sym merging.survivor_is ∙ same ∙ merging.absorbed_is)))
    where
      equal : (p q : ℕ) → min p q ≡ max p q → q ≡ p
      equal p q same = omega arith

  -- the regions of the graph after the merge
  module _ (next : RegionGraph) (after : IsGraphAfter graph m next) where
    old_region : (k : ℕ) (name : ℕ) → IsOpen closed k → name_at regions k ≡ name
        → Contains graph.regions (record { name = name; faces = faces_at regions k })
    old_region k name is_open same =
        subst (λ n. Contains graph.regions (record { name = n; faces = faces_at regions k })) same
        (region_there graph regions closed links stands k is_open)

    both_faces : HasBothFaces graph m (bit_or (faces_at regions to) (faces_at regions from))
    both_faces = elim (order_cases (name_at regions to) (name_at regions from)) [
      | inl (low, high) ↦ record {
        own = faces_at regions to;
        taken = faces_at regions from;
        survivor = old_region to m.survivor merging.to_open (sym (merging.survivor_is ∙ low));
        absorbed = old_region from m.absorbed merging.from_open (sym (merging.absorbed_is ∙ high));
        both = refl;
      }
      | inr (low, high) ↦ record {
        own = faces_at regions from;
        taken = faces_at regions to;
        survivor = old_region from m.survivor merging.from_open (sym (merging.survivor_is ∙ low));
        absorbed = old_region to m.absorbed merging.to_open (sym (merging.absorbed_is ∙ high));
        both = or_comm (faces_at regions to) (faces_at regions from);
      }
    ]

    both_there : Contains next.regions (region_at new_regions to)
    both_there =
        subst (Contains next.regions)
        ((λ i. record { name = merging.survivor_is i; faces = bit_or (faces_at regions to) (faces_at regions from) }) ∙ sym region_both)
        ((after.survivor (bit_or (faces_at regions to) (faces_at regions from))).1 both_faces)

    region_was : (r : Region) → Contains next.regions r → HasOpen new_regions new_closed r
    region_was r inside = elim (cases_eq r.name m.survivor) [
      | inl at_survivor ↦ (
        to,
        below to to_still,
        to_still,
        one_region next.regions (region_at new_regions to) r after.graph_is.regions_ascend both_there inside
            (name_both ∙ sym at_survivor),
      )
      | inr other ↦
          let old = (after.others r other).0 inside in
          let slot = (stands.regions_are r).0 old.0 in
          let k = slot.0 in
          let name : name_at regions k ≡ r.name = ap (λ q. q.name) slot.3 in
          let not_either : IsEither m (name_at regions k) → ⊥ =
          λ one. elim one [ inl s ↦ other (sym name ∙ s) | inr b ↦ old.1 (sym name ∙ b) ] in
          let kf : k ≢ from = λ e. not_either (subst (λ j. IsEither m (name_at regions j)) (sym e) both_names.1) in
          let kt : k ≢ to = λ e. not_either (subst (λ j. IsEither m (name_at regions j)) (sym e) both_names.0) in
          (k, below k (still_open k kf slot.2), still_open k kf slot.2, region_kept k kt ∙ slot.3)
    ]
      where
        below : (k : ℕ) → IsOpen new_closed k → k < length new_regions
        below k is_open = let low = open_within new_closed k is_open in let len = slots_then.one_each in omega arith

    region_is : (r : Region) → HasOpen new_regions new_closed r → Contains next.regions r
    region_is r (k, low, is_open, same) = elim (cases_eq k to) [
      | inl at_to ↦ subst (Contains next.regions) (ap (region_at new_regions) (sym at_to) ∙ same) both_there
      | inr kt ↦
          let was = was_open k is_open in
          let names = other_name k was (not_from k is_open) kt in
          subst (Contains next.regions) (sym (region_kept k kt) ∙ same)
          ((after.others (region_at regions k) names.0).1 (region_there graph regions closed links stands k was, names.1))
    ]

    stands_then : Stands next new_regions new_closed new_links
    stands_then = record {
      graph_is = after.graph_is;
      slots = slots_then;
      regions_are = λ r. (region_was r, region_is r);
      contacts = λ past x y xy.
          after.contacts past x y xy
          ∙ SameContacts-after m graph.edges (edges_by (name_at regions) links) survivor_apart stands.contacts past x y xy
          ∙ links_after past x y xy;
    }

-- The merge of a reciprocal link is one of a reciprocal edge, and what stands then is the graph after it.
pub taken_over : (t : Threshold) (faces : ℕ) (graph : RegionGraph) (regions : List Region) (closed : List Bool) (links : List Link)
    (i from to : ℕ) (new_regions : List Region) (new_closed : List Bool) (new_links : List Link)
    → Stands graph regions closed links → IsReciprocalAt t faces regions links i → Joins from to (nth_link links i)
    → IsTakenOver from to regions closed links new_regions new_closed new_links
    → IsReciprocalEdge t faces graph (edge_of (merge_at regions (nth_link links i)))
    × ((next : RegionGraph) × IsGraphAfter graph (merge_at regions (nth_link links i)) next × Stands next new_regions new_closed new_links)
taken_over t faces graph regions closed links i from to new_regions new_closed new_links stands pair joins taken =
    let l = nth_link links i in
    let m = merge_at regions l in
    let after = after_exists graph m stands.graph_is (reciprocal_there graph regions closed links stands t faces i pair) in (
      reciprocal_at graph regions closed links stands t faces i pair,
      (
        after.0,
        after.1,
        stands_then graph regions closed links from to m new_regions new_closed new_links stands (merging joins) taken (differ joins)
            after.0 after.1,
      ),
    )
  where
    ends_open : IsOpen closed (nth_link links i).a × IsOpen closed (nth_link links i).b
    ends_open = open_pair graph regions closed links stands t faces i pair

    differ : Joins from to (nth_link links i) → from ≢ to
    differ (inl (at_a, at_b)) same = pair.live (at_a ∙ same ∙ sym at_b)
    differ (inr (at_a, at_b)) same = pair.live (at_a ∙ sym same ∙ sym at_b)

    merging : Joins from to (nth_link links i) → AreMerging regions closed from to (merge_at regions (nth_link links i))
    merging (inl (at_a, at_b)) = record {
      from_open = subst (IsOpen closed) at_a ends_open.0;
      to_open = subst (IsOpen closed) at_b ends_open.1;
      survivor_is = (λ j. min (name_at regions (at_a j)) (name_at regions (at_b j))) ∙ omega arith;
      absorbed_is = (λ j. max (name_at regions (at_a j)) (name_at regions (at_b j))) ∙ omega arith;
    }
    merging (inr (at_a, at_b)) = record {
      from_open = subst (IsOpen closed) at_b ends_open.1;
      to_open = subst (IsOpen closed) at_a ends_open.0;
      survivor_is = λ j. min (name_at regions (at_a j)) (name_at regions (at_b j));
      absorbed_is = λ j. max (name_at regions (at_a j)) (name_at regions (at_b j));
    }
