use Rattle.std.proofs.Common.{◌≡◌}
use Rattle.agglo_model.specs.Cutting.{first_node}
use Rattle.chunk_run.specs.Lanes.{HasRun}
use Rattle.chunk_run.proofs.running.run_tree.Given as goal

-- the levels so far were worked
abbrev pub invariant-loop-level : goal.invariant-loop-level
invariant-loop-level g l = (l.first ≡ first_node l.site.cutting l.level)
    × HasRun l.site l.first l.progress.waiting.items l.progress.merges.items l.progress.worked.items l.progress.levels.items
