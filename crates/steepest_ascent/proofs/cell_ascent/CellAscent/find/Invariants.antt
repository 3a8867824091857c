use Rattle.std.proofs.Common.{ℕ}
use Rattle.agglo_model.proofs.Ascent.{standing}
use Rattle.steepest_ascent.specs.CellEnds.{IsEndOf}
use Rattle.steepest_ascent.specs.Charts.{AreEndsSoFar, GainsEnds, IsEndAt, StaysWithin}
use Rattle.steepest_ascent.specs.CellTurns.{IsSpot}
use Rattle.steepest_ascent.specs.declared.ends.End.{End}
use Rattle.steepest_ascent.proofs.cell_ascent.CellAscent.find.Given as goal

abbrev pub invariant-loop-here : goal.invariant-loop-here
invariant-loop-here l = record {
  spot : IsSpot l.self l.here;
  same_end : (end : End) → IsEndOf l.self.grid l.self.low l.self.cell l.here.voxel end → IsEndAt l.self l.fn.from.own end;
  right : AreEndsSoFar l.self l.ends;
  within : (k : ℕ) → StaysWithin l.self l.ends k;
  gains : GainsEnds l.self l.fn.ends l.ends;
}

abbrev pub decreases-loop-here : goal.decreases-loop-here
decreases-loop-here l = standing 255 l.self.grid l.self.low l.here.voxel
