use Rattle.std.proofs.Common.{◌≡◌, ◌+◌, ◌*◌, ◌<◌, ◌&&◌, nat_le, nat_lt, get_or, length, ℕ}
use Rattle.edge_order.specs.Keys.{key, raised}
use Rattle.edge_order.proofs.rows.raise.Given as goal

abbrev pub invariant-loop-x : goal.invariant-loop-x
invariant-loop-x l = (u : ℕ) → u < length l.keys → get_or l.keys u 0
    ≡ raised (get_or l.fn.keys u 0) (nat_le l.from u && nat_lt u l.x) (key (get_or l.bytes (l.first + 3 * u) 0) l.step)
