use Rattle.std.proofs.Common.{◌≡◌, ◌≤◌, length}
use Rattle.chunk_run.specs.Lanes.{AreHandedOut, jobs_in}
use Rattle.chunk_run.proofs.handing.hand_out.Given as goal

-- the nodes so far were handed out
abbrev pub invariant-loop-node : goal.invariant-loop-node
invariant-loop-node l = (length l.lanes.items ≡ l.count)
    × (l.first ≤ l.node) × AreHandedOut l.site l.first l.node l.initial.waiting l.waiting (jobs_in l.lanes.items)
