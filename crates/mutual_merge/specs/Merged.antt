-- Regions and links after the pairs of mates are merged.
use Rattle.std.specs.Prelude.{◌≡◌, ◌≢◌, ℕ, ◌+◌, ◌*◌, ◌^◌, ◌<◌, ◌≤◌, ◌⊎◌, ◌++◌, min, List, [], ◌∷◌, All, AllPairs, length, slice_index, bit_or}
use Rattle.agglo_model.specs.PairOrder.{added}
use Rattle.agglo_model.specs.RegionGraph.{Region, contact_in}
use Rattle.mutual_merge.specs.declared.links.Link.{Link}
use Rattle.mutual_merge.specs.Linked.{Ascend, AreLinked, IsLink, LinkBefore, link_edges, name_at, faces_at, edges_by}

-- each region's mate is a region, whose mate it is
pub record AreMutual (mates : List ℕ) (n : ℕ) : Type 0 where
  pub one_each : length mates ≡ n
  pub inside : (k : ℕ) → k < n → slice_index mates k < n
  pub back : (k : ℕ) → k < n → slice_index mates (slice_index mates k) ≡ k

-- the place of the region that survives a region's merge with its mate
abbrev pub survivor_of : List ℕ → ℕ → ℕ
survivor_of mates k = min k (slice_index mates k)

-- Of each pair of mates the first is kept, with the faces of both; `places` says where each region's survivor
-- stands among those that are kept.
pub record AreSurvivors (regions : List Region) (mates : List ℕ) (kept : List Region) (places : List ℕ) : Type 0 where
  pub one_each : length places ≡ length regions
  pub ascend : Ascend kept
  pub few : length kept ≤ length regions
  pub fewer : (k : ℕ) → k < length regions → slice_index mates k < k → length kept < length regions
  pub inside : (k : ℕ) → k < length regions → slice_index places k < length kept
  pub named : (k : ℕ) → k < length regions
      → name_at kept (slice_index places k) ≡ name_at regions (survivor_of mates k)
  pub faced : (k : ℕ) → k < length regions → k ≤ slice_index mates k
      → faces_at kept (slice_index places k) ≡ bit_or (faces_at regions k) (faces_at regions (slice_index mates k))
  pub each : (j : ℕ) → j < length kept
      → (k : ℕ) × (k < length regions) × (k ≤ slice_index mates k) × (slice_index places k ≡ j)

-- however places are named, the two lists of links have the same contacts between different names
abbrev pub SameContactsBy : (ℕ → ℕ) → List Link → (ℕ → ℕ) → List Link → Type 0
SameContactsBy name links other_name others = (past x y : ℕ) → x ≢ y
    → contact_in past (edges_by name links) x y ≡ contact_in past (edges_by other_name others) x y

-- the regions and links after each pair of mates is merged
pub record AreMerged (regions : List Region) (links : List Link) (mates : List ℕ) (kept : List Region) (joined : List Link) : Type 0 where
  pub linked : AreLinked kept joined
  pub places : List ℕ
  pub survivors : AreSurvivors regions mates kept places
  pub fewer : link_edges joined ≤ link_edges links
  pub contacts : SameContactsBy (name_at kept) joined (λ k. name_at regions (survivor_of mates k)) links

-- the number by which links are sorted
abbrev pub key_of : Link → ℕ
key_of l = 2 ^ 32 * l.a + l.b

-- one link stands before another, or the two join the same regions
abbrev pub NoLater : Link → Link → Type 0
NoLater l m = (l.a < m.a) ⊎ ((l.a ≡ m.a) × (l.b ≤ m.b))

-- the contact of a link is added to that of the last of a list, which joins the same regions
pub record JoinsLast (old : List Link) (link : Link) (new : List Link) : Type 0 where
  pub front : List Link
  pub last : Link
  pub old_is : old ≡ front ++ last ∷ []
  pub same_a : last.a ≡ link.a
  pub same_b : last.b ≡ link.b
  pub new_is : new ≡ front ++ (record last { contact = added last.contact link.contact }) ∷ []

-- the link is appended, since the last of the list, if there is one, joins other regions
pub record IsAppended (old : List Link) (link : Link) (new : List Link) : Type 0 where
  pub other : (front : List Link) (last : Link) → old ≡ front ++ last ∷ [] → (last.a ≢ link.a) ⊎ (last.b ≢ link.b)
  pub new_is : new ≡ old ++ link ∷ []

abbrev pub IsJoinedLink : List Link → Link → List Link → Type 0
IsJoinedLink old link new = JoinsLast old link new ⊎ IsAppended old link new

-- links between the same regions are added up
pub record AreJoined (links joined : List Link) : Type 0 where
  pub ascend : AllPairs LinkBefore joined
  pub each : (n : ℕ) → All (IsLink n) links → All (IsLink n) joined
  pub edges : link_edges joined ≡ link_edges links
  pub contacts : (name : ℕ → ℕ) → SameContactsBy name joined name links
