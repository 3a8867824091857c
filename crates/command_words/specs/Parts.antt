-- A text cut at its first separator.
use Rattle.std.specs.Prelude.{◌≢◌, ℕ, ◌<◌, List, length, slice_index}

-- the byte does not stand in the text
abbrev pub IsWithout : ℕ → List ℕ → Type 0
IsWithout c text = (i : ℕ) → i < length text → slice_index text i ≢ c
