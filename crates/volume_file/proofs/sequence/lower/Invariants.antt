use Rattle.std.proofs.Common.{◌≡◌, ℕ, ◌+◌, ◌-◌, ◌%◌, ◌^◌, ◌<◌, ◌≤◌, length, get_or}
use Rattle.volume_file.proofs.sequence.lower.Given as goal

abbrev pub invariant-loop-i : goal.invariant-loop-i
invariant-loop-i l = (length l.lanes ≡ 65536)
    × ((j : ℕ) → j < l.i → get_or l.lanes j 0 ≡ (get_or l.initial.lanes j 0 + 2 ^ 16 - get_or l.before j 0) % 2 ^ 16)
    × ((j : ℕ) → l.i ≤ j → get_or l.lanes j 0 ≡ get_or l.initial.lanes j 0)
