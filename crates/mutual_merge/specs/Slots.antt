-- A region graph while merges are made in it. Each region has a slot, which is closed when its region is taken into
-- another one; links join slots, in either order. A link from a slot to itself is gone, and says nothing.
use Rattle.std.specs.Prelude.{◌≡◌, ◌≢◌, ℕ, ◌<◌, ◌≤◌, ◌⊎◌, ◌↔◌, ◌==◌, ◌+◌, ◌*◌, ◌^◌, Bool, true, false, cond, List, [], ◌∷◌, ◌++◌, All, Contains, Option, Some, None, length, sum_by, slice_index_or, slice_set, ◌/◌, bit_and, bit_or, min, max}
use Rattle.agglo_model.specs.PairOrder.{Threshold, Before, Reaches, most_edges}
use Rattle.agglo_model.specs.Greedy.{Merge}
use Rattle.agglo_model.specs.RegionGraph.{Region, RegionGraph, IsGraph, contact_in, grid_edges}
use Rattle.mutual_merge.specs.declared.links.Link.{Link}
use Rattle.mutual_merge.specs.Linked.{IsAtPlace, region_at, name_at, faces_at, edges_by}
use Rattle.mutual_merge.specs.Merged.{SameContactsBy}
use Rattle.mutual_merge.specs.Rounds.{Carries}
use Rattle.index_lists.specs.LinkedLists.{LinkedLists, list_at}

-- the slot is one of the list, and has a region
abbrev pub IsOpen : List Bool → ℕ → Type 0
IsOpen closed k = slice_index_or closed k true ≡ false

-- the link of an index; past the end, one that is gone
abbrev pub nth_link : List Link → ℕ → Link
nth_link links i = slice_index_or links i (record { a = 0; b = 0; contact = record { sum = 0; count = 1; tie = 0 } })

-- the link joins two slots
abbrev pub IsLive : Link → Type 0
IsLive l = l.a ≢ l.b

-- it joins two slots, of which one is k
pub record IsLiveAt (k : ℕ) (l : Link) : Type 0 where
  pub live : IsLive l
  pub at_slot : IsAtPlace k l

-- it joins the slots j and k
abbrev pub Joins : ℕ → ℕ → Link → Type 0
Joins j k l = ((l.a ≡ j) × (l.b ≡ k)) ⊎ ((l.a ≡ k) × (l.b ≡ j))

-- how many edges of the grid the links that are not gone have together
abbrev pub live_edges : List Link → ℕ
live_edges links = sum_by (λ l. cond (l.a == l.b) 0 l.contact.count) links

-- the ends are two of so many slots, and the contact has some edge of the grid
pub record IsSlotLink (n : ℕ) (l : Link) : Type 0 where
  pub a_inside : l.a < n
  pub b_inside : l.b < n
  pub touching : 0 < l.contact.count

-- each contact has some edge of the grid
abbrev pub AreTouching : List Link → Type 0
AreTouching links = All (λ l. 0 < l.contact.count) links

-- links between so many slots, which have no more edges of the grid than there are
pub record AreSlotLinks (n : ℕ) (links : List Link) : Type 0 where
  pub each : All (IsSlotLink n) links
  pub within : live_edges links ≤ most_edges

-- Slots and links that have no graph yet: open slots have different names, and live links join open slots.
pub record AreSlots (regions : List Region) (closed : List Bool) (links : List Link) : Type 0 where
  pub one_each : length closed ≡ length regions
  pub apart : (j k : ℕ) → IsOpen closed j → IsOpen closed k → name_at regions j ≡ name_at regions k → j ≡ k
  pub links_are : AreSlotLinks (length regions) links
  pub open_ends : (l : Link) → Contains links l → IsLive l → IsOpen closed l.a × IsOpen closed l.b

-- the region of an open slot
abbrev pub HasOpen : List Region → List Bool → Region → Type 0
HasOpen regions closed r = (k : ℕ) × (k < length regions) × IsOpen closed k × (region_at regions k ≡ r)

-- The slots and links are this graph: its regions are those of open slots, and any two names have the same contact.
pub record Stands (graph : RegionGraph) (regions : List Region) (closed : List Bool) (links : List Link) : Type 0 where
  pub graph_is : IsGraph graph
  pub slots : AreSlots regions closed links
  pub regions_are : (r : Region) → Contains graph.regions r ↔ HasOpen regions closed r
  pub contacts : (past x y : ℕ) → x ≢ y
      → contact_in past graph.edges x y ≡ contact_in past (edges_by (name_at regions) links) x y

-- Links of which some were added up: each that is live joins the slots that it joined before.
pub record AreGathered (old new : List Link) : Type 0 where
  pub one_each : length new ≡ length old
  pub inside : (n : ℕ) → All (IsSlotLink n) old → All (IsSlotLink n) new
  pub same_ends : (i : ℕ) → i < length old → IsLive (nth_link new i)
      → ((nth_link new i).a ≡ (nth_link old i).a) × ((nth_link new i).b ≡ (nth_link old i).b)
  pub fewer : live_edges new ≤ live_edges old
  pub contacts : (name : ℕ → ℕ) → SameContactsBy name new name old

-- Of the link of index i, which may have been added to another one, that of index `kept` is left. Each other link that
-- is live is as it was.
pub record IsKeptOf (i kept : ℕ) (old new : List Link) : Type 0 where
  pub inside : kept < length old
  pub others : (j : ℕ) → j ≢ kept → IsLive (nth_link new j) → (j ≢ i) × (nth_link new j ≡ nth_link old j)

-- The link of index i joins a reciprocal pair: the regions of both slots are free, the contact reaches the threshold,
-- no live link at either slot comes before it, and no other joins the two.
pub record IsReciprocalAt (t : Threshold) (faces : ℕ) (regions : List Region) (links : List Link) (i : ℕ) : Type 0 where
  pub there : i < length links
  pub live : IsLive (nth_link links i)
  pub a_free : bit_and (faces_at regions (nth_link links i).a) faces ≡ 0
  pub b_free : bit_and (faces_at regions (nth_link links i).b) faces ≡ 0
  pub reaches : Reaches t (nth_link links i).contact
  pub first : (j : ℕ) → j < length links
      → IsLiveAt (nth_link links i).a (nth_link links j) ⊎ IsLiveAt (nth_link links i).b (nth_link links j)
      → ¬ (Before (nth_link links j).contact (nth_link links i).contact)
  pub single : (j : ℕ) → j < length links → Joins (nth_link links i).a (nth_link links i).b (nth_link links j) → j ≡ i

-- a slot after the region of one is taken into that of another, and a link with such ends
abbrev pub slot_after : ℕ → ℕ → ℕ → ℕ
slot_after from to k = cond (k == from) to k

abbrev pub link_after : ℕ → ℕ → Link → Link
link_after from to l = record l { a = slot_after from to l.a; b = slot_after from to l.b }

-- a link with its end moved; what is gone stays as it is
abbrev pub moved_link : ℕ → ℕ → Link → Link
moved_link from to l = cond (l.a == l.b) l (link_after from to l)

-- the other slot of a link at k
abbrev pub other_end : ℕ → Link → ℕ
other_end k l = cond (l.a == k) l.b l.a

-- all live links that ended at one slot end at another; what is gone stays as it was
pub record HaveMovedEnds (from to : ℕ) (old new : List Link) : Type 0 where
  pub one_each : length new ≡ length old
  pub live : (i : ℕ) → i < length old → IsLive (nth_link old i) → nth_link new i ≡ link_after from to (nth_link old i)
  pub gone : (i : ℕ) → i < length old → ¬ IsLive (nth_link old i) → nth_link new i ≡ nth_link old i

-- the region that two make: the smaller name, and the faces of both
abbrev pub both_regions : Region → Region → Region
both_regions r s = record { name = min r.name s.name; faces = bit_or r.faces s.faces }

-- the merge of the regions of two slots
abbrev pub merge_at : List Region → Link → Merge
merge_at regions l = record {
  survivor = min (name_at regions l.a) (name_at regions l.b);
  absorbed = max (name_at regions l.a) (name_at regions l.b);
  contact = l.contact;
}

-- The region of the slot `from` was taken into that of `to`. Its slot is closed, and its links end at the other.
pub record IsTakenOver (from to : ℕ) (regions : List Region) (closed : List Bool) (links : List Link) (new_regions : List Region) (new_closed : List Bool) (new_links : List Link) : Type 0 where
  pub regions_are : new_regions ≡ slice_set regions to (both_regions (region_at regions to) (region_at regions from))
  pub closed_are : new_closed ≡ slice_set closed from true
  pub links_are : HaveMovedEnds from to links new_links

-- An item for each end of each link: 2 * i for a and 2 * i + 1 for b. These are items of all live links at slot k.
abbrev pub Covers : List ℕ → List Link → ℕ → Type 0
Covers items links k = (i : ℕ) → i < length links → IsLiveAt k (nth_link links i) → (j : ℕ) × Contains items j × (j / 2 ≡ i)

-- items of that many links
abbrev pub AreItems : ℕ → List ℕ → Type 0
AreItems count items = All (λ j. j / 2 < count) items

-- No live link at slot k among those of the items; or the index of one that none of them comes before.
abbrev pub IsFirstOf : List Link → List ℕ → ℕ → Option ℕ → Type 0
IsFirstOf links items k None = (j : ℕ) → Contains items j → ¬ IsLiveAt k (nth_link links (j / 2))
IsFirstOf links items k (Some i) = (i < length links) × IsLiveAt k (nth_link links i)
    × ((j : ℕ) → Contains items j → IsLiveAt k (nth_link links (j / 2))
    → ¬ (Before (nth_link links (j / 2)).contact (nth_link links i).contact))

-- The links of these items had their ends moved, and each other one was or was not.
pub record HaveMovedEndsOf (items : List ℕ) (from to : ℕ) (old new : List Link) : Type 0 where
  pub one_each : length new ≡ length old
  pub each : (i : ℕ) → i < length old → (nth_link new i ≡ nth_link old i) ⊎ (nth_link new i ≡ moved_link from to (nth_link old i))
  pub moved : (j : ℕ) → Contains items j → nth_link new (j / 2) ≡ moved_link from to (nth_link old (j / 2))

-- the first live link at slot k of all links, by its index; none where there is no live link at it
abbrev pub IsFirstAt : List Link → ℕ → Option ℕ → Type 0
IsFirstAt links k None = (i : ℕ) → i < length links → ¬ IsLiveAt k (nth_link links i)
IsFirstAt links k (Some i) = (i < length links) × IsLiveAt k (nth_link links i)
    × ((j : ℕ) → j < length links → IsLiveAt k (nth_link links j) → ¬ (Before (nth_link links j).contact (nth_link links i).contact))

-- The items of each live link stand in the lists of the slots that it joins.
pub record AreListed (n : ℕ) (links : List Link) (lists : LinkedLists) : Type 0 where
  pub items_are : lists.items ≡ 2 * length links
  pub lists_are : length lists.lists ≡ n
  pub complete : (i : ℕ) → i < length links → IsLive (nth_link links i)
      → Contains (list_at lists (nth_link links i).a) (2 * i) × Contains (list_at lists (nth_link links i).b) (2 * i + 1)

-- slots with their links in lists, and a mark for each slot
pub record AreListedSlots (regions : List Region) (closed : List Bool) (links : List Link) (lists : LinkedLists) (marks : List ℕ) : Type 0 where
  pub one_each : length closed ≡ length regions
  pub links_are : AreSlotLinks (length regions) links
  pub listed : AreListed (length regions) links lists
  pub marked : length marks ≡ length regions

-- The link of index i joins a pair that is first at both of its slots, free and above the threshold. Another link may
-- join the same two.
pub record IsFirstPairAt (t : Threshold) (faces : ℕ) (regions : List Region) (links : List Link) (i : ℕ) : Type 0 where
  pub there : i < length links
  pub live : IsLive (nth_link links i)
  pub a_free : bit_and (faces_at regions (nth_link links i).a) faces ≡ 0
  pub b_free : bit_and (faces_at regions (nth_link links i).b) faces ≡ 0
  pub reaches : Reaches t (nth_link links i).contact
  pub first : (j : ℕ) → j < length links
      → IsLiveAt (nth_link links i).a (nth_link links j) ⊎ IsLiveAt (nth_link links i).b (nth_link links j)
      → ¬ (Before (nth_link links j).contact (nth_link links i).contact)

-- The region of the slot `from` was taken into that of `to`, and links that came to join the same two slots were added up.
pub record HasTakenOver (from to : ℕ) (regions : List Region) (closed : List Bool) (links : List Link) (new_regions : List Region) (new_closed : List Bool) (new_links : List Link) : Type 0 where
  pub moved : List Link
  pub taken : IsTakenOver from to regions closed links new_regions new_closed moved
  pub gathered : AreGathered moved new_links

-- the pair of the link of index i, which alone joins its two slots, was merged
pub record HasMergedPair (i : ℕ) (regions : List Region) (closed : List Bool) (links : List Link) (new_regions : List Region) (new_closed : List Bool) (new_links : List Link) (merge : Merge) : Type 0 where
  pub merge_is : merge ≡ merge_at regions (nth_link links i)
  pub single : (j : ℕ) → j < length links → Joins (nth_link links i).a (nth_link links i).b (nth_link links j) → j ≡ i
  pub from : ℕ
  pub to : ℕ
  pub joins : Joins from to (nth_link links i)
  pub taken : HasTakenOver from to regions closed links new_regions new_closed new_links

-- the pair was merged, or all is as it was
abbrev pub IsPairTried : ℕ → List Region → List Bool → List Link → List Region → List Bool → List Link → Option Merge → Type 0
IsPairTried i regions closed links new_regions new_closed new_links None =
    (new_regions ≡ regions) × (new_closed ≡ closed) × (new_links ≡ links)
IsPairTried i regions closed links new_regions new_closed new_links (Some merge) =
    HasMergedPair i regions closed links new_regions new_closed new_links merge

-- the merge of the pair was appended to others, or all is as it was
pub record HasNoted (i : ℕ) (regions : List Region) (closed : List Bool) (links : List Link) (new_regions : List Region) (new_closed : List Bool) (new_links : List Link) (merges new_merges : List Merge) : Type 0 where
  pub merge : Merge
  pub merged : HasMergedPair i regions closed links new_regions new_closed new_links merge
  pub noted : new_merges ≡ merges ++ merge ∷ []

pub record AllStays (regions : List Region) (closed : List Bool) (links : List Link) (new_regions : List Region) (new_closed : List Bool) (new_links : List Link) (merges new_merges : List Merge) : Type 0 where
  pub regions_stay : new_regions ≡ regions
  pub closed_stay : new_closed ≡ closed
  pub links_stay : new_links ≡ links
  pub merges_stay : new_merges ≡ merges

abbrev pub HasNotedPair : ℕ → List Region → List Bool → List Link → List Region → List Bool → List Link → List Merge → List Merge → Type 0
HasNotedPair i regions closed links new_regions new_closed new_links merges new_merges =
    HasNoted i regions closed links new_regions new_closed new_links merges new_merges
    ⊎ AllStays regions closed links new_regions new_closed new_links merges new_merges

-- the regions of both slots of a link touch none of the faces
abbrev pub AreFree : List Region → ℕ → Link → Type 0
AreFree regions faces l = (bit_and (faces_at regions l.a) faces ≡ 0) × (bit_and (faces_at regions l.b) faces ≡ 0)

-- The merges lead from the graph `start` to slots and links that are the graph after them.
pub record HaveMergedInto (t : Threshold) (faces : ℕ) (start : RegionGraph) (merges : List Merge) (regions : List Region) (closed : List Bool) (links : List Link) : Type 0 where
  pub graph : RegionGraph
  pub carries : Carries t faces start merges graph
  pub stands : Stands graph regions closed links
  pub few : length regions ≤ 2 ^ 32
  pub fewer : live_edges links ≤ grid_edges start
