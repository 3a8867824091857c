-- The steps of generating a volume.
use Rattle.std.specs.Prelude.{◌≡◌, ℕ, ◌+◌, ◌/◌, ◌%◌, ◌^◌, ◌<◌, List, map, get_or}
use Rattle.std.specs.List.{range_with_len}
use Rattle.agglo_model.specs.Generated.{number_after, generated_byte}
use Rattle.volume_file.specs.declared.sequence.Sequence.{Sequence}

-- the bytes of 65536 edge numbers, from edge number e on
unfoldable pub bytes_from : ℕ → ℕ → List ℕ
bytes_from first e = map (generated_byte first) (range_with_len e 65536)

-- the highest 16 bits of the numbers of as many edge numbers
abbrev pub AreHighs : ℕ → ℕ → List ℕ → Type 0
AreHighs first e high = (i : ℕ) → i < 65536 → get_or high i 0 ≡ number_after first (e + i + 1) / 2 ^ 16

-- those bytes come next: the highest bits of their numbers, and what leads from each to the one a round later
abbrev pub StandsAt : ℕ → ℕ → Sequence → Type 0
StandsAt first e sequence = AreHighs first e sequence.high
    × ((i : ℕ) → i < 65536
    → (get_or sequence.high i 0 + get_or sequence.rise i 0) % 2 ^ 16 ≡ number_after first (e + i + 1 + 65536) / 2 ^ 16)
