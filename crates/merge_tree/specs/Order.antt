-- Pair order on merges, as a test and as a relation.
use Rattle.std.specs.Prelude.{◌<◌, ◌==◌, nat_lt, Bool, ◌&&◌, ◌||◌}
use Rattle.agglo_model.specs.PairOrder.{SameRank}
use Rattle.agglo_model.specs.Greedy.{Merge}
use Rattle.agglo_model.specs.TreeFile.{comes_before}

-- the contacts of two merges have not the same mean and tie
abbrev pub DifferInRank : Merge → Merge → Type 0
DifferInRank m n = ¬ (SameRank m.contact n.contact)

-- the contact has an edge, as every contact does
abbrev pub HasEdges : Merge → Type 0
HasEdges m = 0 < m.contact.count

-- the test of `RanksFirst`, extended to an order of all triples of numbers: those without an edge,
-- which no contact has, go last
unfoldable pub goes_first : Merge → Merge → Bool
goes_first m n = nat_lt 0 m.contact.count && (n.contact.count == 0 || comes_before m.contact n.contact)
