-- The graph of a leaf's cell before its work is that from the start.
use Rattle.std.proofs.Common.{sym, arith}
use Rattle.agglo_model.specs.Work.{labels_before}
use Rattle.agglo_model.specs.JoiningLaws.{LeavesStart}
use Rattle.agglo_model.proofs.WaitingCells.{leaves_start_fresh}
use Rattle.work_laws.proofs.SameCells.{same_graph}

pub leaves_start : LeavesStart
leaves_start g t c labels works on m worked leaf graph is =
    same_graph c m labels (labels_before labels works m)
    (λ v held. sym (leaves_start_fresh g t c labels works on m (omega arith) leaf v held))
    (λ _. Unit {0}) g on.axes graph is
