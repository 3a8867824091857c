-- Names stay connected through merges of reciprocal pairs.
use Rattle.std.proofs.Common.{ℕ, List, [], ◌∷◌}
use Rattle.agglo_model.specs.Grid.{Grid}
use Rattle.agglo_model.specs.PairOrder.{Threshold}
use Rattle.agglo_model.specs.Greedy.{Merge, after_merge, after_merges}
use Rattle.agglo_model.specs.Connected.{AreConnected}
use Rattle.agglo_model.specs.Cutting.{Chunking}
use Rattle.agglo_model.specs.Work.{IsNodeStep, IsWork}
use Rattle.agglo_model.proofs.ConnectedMerges.{merges_keep_connected}

pub connected_after_step : (g : Grid) (t : Threshold) (c : Chunking) (m : ℕ) (labels : List ℕ) (step : Merge)
    → IsNodeStep g t c m labels step → AreConnected g.axes labels → AreConnected g.axes (after_merge labels step)
connected_after_step g t c m labels step here connected =
    merges_keep_connected g labels step.survivor step.absorbed here.reciprocal.pair.touching connected

-- the work of a node keeps all names connected
pub connected_after : (g : Grid) (t : Threshold) (c : Chunking) (m : ℕ) (labels : List ℕ) (work : List Merge)
    → IsWork g t c m labels work → AreConnected g.axes labels → AreConnected g.axes (after_merges labels work)
connected_after g t c m labels [] work connected = connected
connected_after g t c m labels (step ∷ steps) work connected =
    connected_after g t c m (after_merge labels step) steps work.1
    (connected_after_step g t c m labels step work.0 connected)
