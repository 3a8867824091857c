-- The first contact at each region.
use Rattle.std.specs.Prelude.{◌≡◌, ℕ, ◌<◌, ◌⊎◌, List, length, Contains, Option, Some, None, slice_index_or}
use Rattle.agglo_model.specs.PairOrder.{Contact, Before}
use Rattle.mutual_merge.specs.declared.links.Link.{Link}
use Rattle.mutual_merge.specs.Linked.{IsAtPlace}

-- no link at the place comes before the contact c
abbrev pub NoneBefore : List Link → ℕ → Contact → Type 0
NoneBefore links k c = (l : Link) → Contains links l → IsAtPlace k l → ¬ (Before l.contact c)

-- some link at the place has the contact c, and none there comes before it
pub record IsFirstContact (links : List Link) (k : ℕ) (c : Contact) : Type 0 where
  pub link : Link
  pub there : Contains links link
  pub at_place : IsAtPlace k link
  pub contact_is : link.contact ≡ c
  pub none_before : NoneBefore links k c

-- the first contact at a place, or none where no link is at it
abbrev pub IsFirst : List Link → ℕ → Option Contact → Type 0
IsFirst links k None = (l : Link) → Contains links l → ¬ (IsAtPlace k l)
IsFirst links k (Some c) = IsFirstContact links k c

-- the first contact at each of so many places
pub record AreFirsts (links : List Link) (n : ℕ) (firsts : List (Option Contact)) : Type 0 where
  pub one_each : length firsts ≡ n
  pub first : (k : ℕ) → k < n → IsFirst links k (slice_index_or firsts k None)

-- the second contact where it comes before the first, and else the first
abbrev pub IsEarlier : Option Contact → Contact → Option Contact → Type 0
IsEarlier None c earlier = earlier ≡ Some c
IsEarlier (Some d) c earlier = ((earlier ≡ Some d) × ¬ (Before c d)) ⊎ ((earlier ≡ Some c) × Before c d)

-- the contact, if there is one, doesn't come before c
abbrev pub IsNotEarlier : Option Contact → Contact → Type 0
IsNotEarlier None c = Unit {0}
IsNotEarlier (Some d) c = ¬ (Before d c)
