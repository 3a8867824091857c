-- The open slots by the names of their regions.
use Rattle.std.specs.Prelude.{◌≡◌, ℕ, ◌<◌, ◌≤◌, ◌↔◌, Bool, List, AllPairs, Contains, length, slice_index, slice_index_or}
use Rattle.agglo_model.specs.RegionGraph.{Region}
use Rattle.mutual_merge.specs.declared.closing.OpenSlot.{OpenSlot}
use Rattle.mutual_merge.specs.Linked.{region_at, name_at}
use Rattle.mutual_merge.specs.Slots.{IsOpen}

-- open slots have different names
abbrev pub HaveOwnNames : List Region → List Bool → Type 0
HaveOwnNames regions closed = (j k : ℕ) → IsOpen closed j → IsOpen closed k → name_at regions j ≡ name_at regions k → j ≡ k

-- a slot that is open, with its region
pub record IsOpenSlot (regions : List Region) (closed : List Bool) (s : OpenSlot) : Type 0 where
  pub there : s.slot < length regions
  pub is_open : IsOpen closed s.slot
  pub region_is : region_at regions s.slot ≡ s.region

-- all open slots, by ascending name
pub record AreOpenSlots (regions : List Region) (closed : List Bool) (slots : List OpenSlot) : Type 0 where
  pub ascend : AllPairs (λ s u. s.region.name < u.region.name) slots
  pub few : length slots ≤ length regions
  pub each : (s : OpenSlot) → Contains slots s ↔ IsOpenSlot regions closed s

-- The places of so many slots in the list of those that are open. Nothing is said of closed ones.
pub record ArePlaces (count : ℕ) (slots : List OpenSlot) (places : List ℕ) : Type 0 where
  pub one_each : length places ≡ count
  pub each : (p : ℕ) (d : OpenSlot) → p < length slots → slice_index places (slice_index_or slots p d).slot ≡ p
