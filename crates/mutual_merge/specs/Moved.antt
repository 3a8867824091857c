-- Links whose regions move to other places. Several regions may come to one place.
use Rattle.std.specs.Prelude.{ℕ, ◌<◌, ◌≤◌, List, All, AllPairs, Contains, slice_index}
use Rattle.mutual_merge.specs.declared.links.Link.{Link}
use Rattle.mutual_merge.specs.Linked.{IsLink, LinkBefore, link_edges}
use Rattle.mutual_merge.specs.Merged.{SameContactsBy}
use Rattle.mutual_merge.specs.Slots.{IsLive, live_edges}

-- the regions that live links join move to places below n
abbrev pub MoveBelow : ℕ → List ℕ → List Link → Type 0
MoveBelow n places links = (l : Link) → Contains links l → IsLive l
    → (slice_index places l.a < n) × (slice_index places l.b < n)

-- What links become: those that join a place to itself are left out.
pub record AreMoved (links : List Link) (places : List ℕ) (moved : List Link) : Type 0 where
  pub each : (n : ℕ) → MoveBelow n places links → All (IsLink n) moved
  pub within : link_edges moved ≤ live_edges links
  pub contacts : (name : ℕ → ℕ) → SameContactsBy name moved (λ k. name (slice_index places k)) links

-- The same in order, where those between the same two places are added up.
pub record AreRelinked (links : List Link) (places : List ℕ) (joined : List Link) : Type 0 where
  pub moved : AreMoved links places joined
  pub ascend : AllPairs LinkBefore joined
