use Rattle.std.proofs.Common.{◌≡◌, ◌+◌, List, length}
use Rattle.std.specs.List.{range_with_len}
use Rattle.agglo_model.specs.RegionGraph.{RegionGraph}
use Rattle.chunk_run.specs.Lanes.{AreTurns, HasTaken}
use Rattle.chunk_run.proofs.progress.Progress.take_in.Given as goal

-- the nodes so far were taken in
abbrev pub invariant-loop-worked : goal.invariant-loop-worked
invariant-loop-worked l = (l.m ≡ l.fn.first + length l.yielded) × (l.self.worked.items ≡ range_with_len 0 l.m)
    × ((kids : List (List RegionGraph)) × AreTurns l.site l.fn.first kids l.fn.done.items
    × HasTaken l.site l.fn.first l.m (l.fn.first + length l.fn.done.items) l.self.waiting.items l.self.merges.items l.self.levels.items kids)
