-- Reciprocal pairs that share no region.
use Rattle.std.specs.Prelude.{◌≡◌, ◌≢◌, ℕ, ◌<◌, ◌⊎◌, List, [], length, Contains, All, AllPairs, slice_index, slice_index_or, Option, None, bit_and}
use Rattle.agglo_model.specs.PairOrder.{Contact, Threshold, Reaches}
use Rattle.agglo_model.specs.Greedy.{Merge}
use Rattle.agglo_model.specs.RegionGraph.{Region}
use Rattle.mutual_merge.specs.declared.links.Link.{Link}
use Rattle.mutual_merge.specs.Linked.{IsAtPlace, name_at, faces_at}
use Rattle.mutual_merge.specs.Firsts.{NoneBefore, IsNotEarlier}

-- The link joins a reciprocal pair: both regions are free, the contact reaches the threshold, and no link at
-- either region comes before it.
pub record IsReciprocalLink (t : Threshold) (faces : ℕ) (regions : List Region) (links : List Link) (l : Link) : Type 0 where
  pub there : Contains links l
  pub a_free : bit_and (faces_at regions l.a) faces ≡ 0
  pub b_free : bit_and (faces_at regions l.b) faces ≡ 0
  pub reaches : Reaches t l.contact
  pub first_of_a : NoneBefore links l.a l.contact
  pub first_of_b : NoneBefore links l.b l.contact

-- the same by the first contacts at the two regions
pub record IsReciprocalBy (t : Threshold) (faces : ℕ) (regions : List Region) (firsts : List (Option Contact)) (l : Link) : Type 0 where
  pub a_free : bit_and (faces_at regions l.a) faces ≡ 0
  pub b_free : bit_and (faces_at regions l.b) faces ≡ 0
  pub reaches : Reaches t l.contact
  pub first_of_a : IsNotEarlier (slice_index_or firsts l.a None) l.contact
  pub first_of_b : IsNotEarlier (slice_index_or firsts l.b None) l.contact

-- the two links share no region
pub record ShareNoPlace (l m : Link) : Type 0 where
  pub smaller : m.a ≢ l.a
  pub smaller_greater : m.a ≢ l.b
  pub greater_smaller : m.b ≢ l.a
  pub greater : m.b ≢ l.b

-- each of the two regions of a link is the other's mate
pub record AreMates (mates : List ℕ) (l : Link) : Type 0 where
  pub of_a : slice_index mates l.a ≡ l.b
  pub of_b : slice_index mates l.b ≡ l.a

-- neither region of a link has a mate: it is its own
pub record AreSingle (mates : List ℕ) (l : Link) : Type 0 where
  pub a_single : slice_index mates l.a ≡ l.a
  pub b_single : slice_index mates l.b ≡ l.b

-- the region is in one of the pairs
abbrev pub IsPaired : List Link → ℕ → Type 0
IsPaired pairs k = (l : Link) × Contains pairs l × IsAtPlace k l

-- Reciprocal pairs that share no region, and for each region its mate in the pairs, or itself. There is none
-- only where no pair is reciprocal.
pub record IsPairing (t : Threshold) (faces : ℕ) (regions : List Region) (links : List Link) (mates : List ℕ) (pairs : List Link) : Type 0 where
  pub one_each : length mates ≡ length regions
  pub reciprocal : All (IsReciprocalLink t faces regions links) pairs
  pub mated : All (AreMates mates) pairs
  pub single : (k : ℕ) → k < length regions → (slice_index mates k ≡ k) ⊎ IsPaired pairs k
  pub apart : AllPairs ShareNoPlace pairs
  pub complete : pairs ≡ [] → (l : Link) → ¬ (IsReciprocalLink t faces regions links l)

-- the merge of a pair
abbrev pub merge_of : List Region → Link → Merge
merge_of regions l = record { survivor = name_at regions l.a; absorbed = name_at regions l.b; contact = l.contact }
