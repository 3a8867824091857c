use Rattle.std.proofs.Common.{◌≡◌, ◌-◌, ◌^◌, ◌<◌, length, sum_by}
use Rattle.agglo_model.specs.Finer.{coarsened}
use Rattle.segment_run.proofs.coarsening.coarsen.Given as goal

-- the levels that are left to be made one
abbrev pub invariant-loop : goal.invariant-loop
invariant-loop l = (coarsened (l.more - l.counter) l.levels.items ≡ coarsened l.more l.fn.levels.items)
    × (l.more - l.counter < length l.levels.items)
    × (sum_by (λ level. level.merges) l.levels.items < 2 ^ 32)
