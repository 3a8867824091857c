use Rattle.std.proofs.Common.{◌≡◌, ◌+◌, ◌-◌, ◌∙◌, length, sum_by, ap, arith}
use Rattle.agglo_model.specs.Finer.{coarsened, first_joined}
use Rattle.agglo_model.specs.Report.{Level}
use Rattle.segment_run.proofs.JoinedLevels.{joined_length, joined_merges, one_step}
use Rattle.segment_run.proofs.coarsening.coarsen.Goals as goal

pub loop-preserved : goal.loop-preserved
loop-preserved c =
    let more = c.args.more in
    let done = c.loop.counter in
    let was = c.loop.levels.items in
    let is : c.join_first.new.levels.items ≡ first_joined was = c.join_first.ensures in
    let len = joined_length was (omega (arith, c.loop.invariant.1, c.loop-test.true)) in (
      ap (coarsened (more - (done + 1))) is ∙ one_step more done was c.loop-test.true ∙ c.loop.invariant.0,
      omega (arith, ap length is, len, c.loop.invariant.1, c.loop-test.true),
      omega (arith, ap (sum_by (λ (level : Level). level.merges)) is, joined_merges was, c.loop.invariant.2),
    )
