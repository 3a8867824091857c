use Rattle.std.specs.List.{AllZip}
use Rattle.chunk_run.specs.Lanes.{IsDone}
use Rattle.chunk_run.proofs.lanes.work_lane.Given as goal

-- the jobs so far are done
abbrev pub invariant-loop-job : goal.invariant-loop-job
invariant-loop-job g l = AllZip (IsDone l.site) l.yielded l.done.items
