use Rattle.std.proofs.Common.{◌++◌, [], ◌∷◌, refl, sym, subst}
use Rattle.std.specs.List.{AllZip}
use Rattle.chunk_run.specs.declared.lanes.Worked.{Worked}
use Rattle.chunk_run.specs.Lanes.{IsDone}
use Rattle.chunk_run.proofs.Parts.{zip_after}
use Rattle.chunk_run.proofs.lanes.work_lane.Goals as goal

pub loop-job-preserved : goal.loop-job-preserved
loop-job-preserved g c =
    let s = c.args.site.now in
    let job = c.in-Some.job in
    let worked : Worked = record { node = job.node; settled = c.in_ok-settled.settled } in
    subst (AllZip (IsDone s) (c.loop-job.yielded ++ job ∷ [])) (sym c.in_ok-push.ensures.items)
    (zip_after (IsDone s) c.loop-job.yielded (job ∷ []) c.loop-job.done.items (worked ∷ []) c.loop-job.invariant
    (record { same_node = refl; turn = c.in_ok-settled.ensures }, tt))
