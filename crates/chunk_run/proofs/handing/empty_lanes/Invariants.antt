use Rattle.std.proofs.Common.{◌≡◌, [], length}
use Rattle.chunk_run.specs.Lanes.{jobs_in}
use Rattle.chunk_run.proofs.handing.empty_lanes.Given as goal

abbrev pub invariant-loop-number : goal.invariant-loop-number
invariant-loop-number l = (length l.lanes.items ≡ l.number) × (jobs_in l.lanes.items ≡ [])
