use Rattle.std.proofs.lemmas.Result.{MatchResult-weaker}
use Rattle.agglo_program.proofs.Explained.{settings_refused}
use Rattle.agglo_program.proofs.top_call.run.Goals as goal

pub returns-in-Ok : goal.returns-in-Ok
returns-in-Ok g c =
    MatchResult-weaker c.run_job.result c.run_job.ensures
    (λ _ finished. record { task = _; spelled = c.in-Ok.ensures.answer; finished = finished })
    (λ refusal refused. settings_refused _ _ refusal _ _ c.in-Ok.ensures.answer refused)
