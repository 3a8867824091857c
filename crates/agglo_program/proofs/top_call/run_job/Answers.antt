use Rattle.std.proofs.Common.{ap, subst, sym}
use Rattle.command_words.specs.Jobs.{task_of}
use Rattle.command_words.specs.Words.{AreSomeSizes}
use Rattle.agglo_program.specs.declared.top_call.Plan.{Plan}
use Rattle.agglo_program.proofs.top_call.run_job.Goals as goal

pub run_segment-requires-clause-sizes : goal.run_segment-requires-clause-sizes
run_segment-requires-clause-sizes g c κs within = subst (λ (plan : Plan). AreSomeSizes plan.chunk) (sym c.new-plan.ensures)
    (c.requires.sizes _ (ap task_of c.in-Segment.is))

pub run_trial-requires-clause-sizes : goal.run_trial-requires-clause-sizes
run_trial-requires-clause-sizes g c κs within = subst (λ (plan : Plan). AreSomeSizes plan.chunk) (sym c.new-plan-in-Trial.ensures)
    (c.requires.trial_sizes _ (ap task_of c.in-Trial.is))
