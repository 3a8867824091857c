use Rattle.std.proofs.Common.{◌≡◌, ◌<◌, ℕ, length, get_or}
use Rattle.steepest_ascent.specs.CellEnds.{CellEnds}
use Rattle.face_pointers.specs.Pieces.{IsLeafClimb}
use Rattle.basin_checks.proofs.tests.basins.climbs.Given as goal

abbrev pub invariant-loop-leaf : goal.invariant-loop-leaf
invariant-loop-leaf l = record {
  one_each : length l.pieces.items ≡ l.leaf;
  each : (m : ℕ) (d : CellEnds) → m < length l.pieces.items
      → IsLeafClimb l.vol l.low l.cutting m (get_or l.pieces.items m d);
}
