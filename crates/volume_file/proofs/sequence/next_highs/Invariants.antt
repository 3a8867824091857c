use Rattle.std.proofs.Common.{◌≡◌, ℕ, ◌+◌, ◌/◌, ◌^◌, ◌<◌, length, get_or}
use Rattle.agglo_model.specs.Generated.{number_after}
use Rattle.volume_file.proofs.sequence.next_highs.Given as goal

abbrev pub invariant-loop-i : goal.invariant-loop-i
invariant-loop-i l = (length l.high ≡ 65536) × (l.number ≡ number_after l.start l.i)
    × ((j : ℕ) → j < l.i → get_or l.high j 0 ≡ number_after l.start (j + 1) / 2 ^ 16)
