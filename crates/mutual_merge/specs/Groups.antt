-- Places that name other places, as the parents of a forest do.
use Rattle.std.specs.Prelude.{◌≡◌, ℕ, ◌<◌, ◌≤◌, List, length, slice_index}

-- none of so many places has a parent after itself
pub record AreParents (count : ℕ) (parents : List ℕ) : Type 0 where
  pub one_each : length parents ≡ count
  pub before : (k : ℕ) → k < count → slice_index parents k ≤ k
