use Rattle.std.proofs.Common.{◌≡◌, ℕ, ◌+◌, ◌/◌, ◌%◌, ◌^◌, ◌<◌, ◌≤◌, length, get_or}
use Rattle.volume_file.proofs.sequence.Sequence.fill.Given as goal

abbrev pub invariant-loop-i : goal.invariant-loop-i
invariant-loop-i l = (length l.bytes ≡ 65536) × (length l.self.high ≡ 65536) × (l.self.rise ≡ l.initial.self.rise)
    × ((j : ℕ) → j < l.i → get_or l.bytes j 0 ≡ get_or l.initial.self.high j 0 / 2 ^ 8)
    × ((j : ℕ) → j < l.i → get_or l.self.high j 0 ≡ (get_or l.initial.self.high j 0 + get_or l.initial.self.rise j 0) % 2 ^ 16)
    × ((j : ℕ) → l.i ≤ j → get_or l.self.high j 0 ≡ get_or l.initial.self.high j 0)
