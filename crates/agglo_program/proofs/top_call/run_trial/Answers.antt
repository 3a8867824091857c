use Rattle.std.proofs.Common.{◌∙◌, rules}
use Rattle.agglo_program.proofs.Segmented.{found_trial}
use Rattle.command_words.specs.Words.{Trial}
use Rattle.agglo_program.specs.Answers.{Finds}
use Rattle.agglo_program.proofs.Stopped.{done_or_stopped}
use Rattle.agglo_program.proofs.top_call.run_trial.Goals as goal

pub returns : goal.returns
returns g c =
    let found : Finds (Trial (record {
      start = c.args.start;
      axes = c.args.dims.now;
      low = c.args.plan.now.settings.low;
      threshold = c.args.plan.now.settings.threshold;
      chunk = c.args.plan.now.chunk;
      workers = c.args.plan.now.settings.workers;
    })) _ (g.D.Desk.state c.args.desk.now) (g.D.Desk.state c.args.desk.now) = found_trial (record {
      start = c.args.start;
      axes = c.args.dims.now;
      low = c.args.plan.now.settings.low;
      threshold = c.args.plan.now.settings.threshold;
      chunk = c.args.plan.now.chunk;
      workers = c.args.plan.now.settings.workers;
    }) _ _ _ _ _ _ _ _ _ c.in_ok-volume.ensures c.in_ok-cutting.ensures.1 c.in_ok-cutting.ensures.0 c.in_ok-answer.ensures.axes
    c.in_ok-answer.ensures.answer (c.as_bytes.ensures.value ∙ c.in_ok-report.ensures) in
    done_or_stopped _ c.put_all.result c.map_err.result _ _ _ _ _ found c.put_all.ensures c.map_err.ensures.cases
    (λ e d is. search rules)
