-- Following a chain of neighbours, and where it ends.
use Rattle.std.specs.Prelude.{◌≡◌, ℕ, ◌<◌, List, Option, length}
use Rattle.agglo_model.specs.PairOrder.{Threshold}
use Rattle.agglo_model.specs.RegionGraph.{Region}
use Rattle.mutual_merge.specs.declared.links.Link.{Link}
use Rattle.mutual_merge.specs.declared.chains.End.{End}
use Rattle.mutual_merge.specs.declared.chains.End.TheVariants.{Pair, Weak, Held}
use Rattle.mutual_merge.specs.declared.slots.Slots.{Slots}
use Rattle.mutual_merge.specs.Indexed.{IsIndexed}
use Rattle.mutual_merge.specs.Slots.{IsFirstAt, IsFirstPairAt}

-- a pair at which it ends is first at both slots, free and above the threshold
abbrev pub IsEnd : Threshold → ℕ → List Region → List Link → End → Type 0
IsEnd t faces regions links (Pair i) = IsFirstPairAt t faces regions links i
IsEnd t faces regions links Weak = Unit {0}
IsEnd t faces regions links Held = Unit {0}

-- The chain has come to a slot and knows its first link. What lists hold aside, the slots are as they were before.
pub record IsOnChain (before now : Slots) (last : ℕ) (first : Option ℕ) : Type 0 where
  pub indexed : IsIndexed now
  pub regions_stay : now.regions ≡ before.regions
  pub closed_stay : now.closed ≡ before.closed
  pub links_stay : now.links ≡ before.links
  pub inside : last < length before.regions.items
  pub first_is : IsFirstAt before.links.items last first
