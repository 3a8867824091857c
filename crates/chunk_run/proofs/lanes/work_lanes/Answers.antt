use Rattle.std.proofs.Common.{rules, get_or, IfOk, sym, subst}
use Rattle.std.specs.List.{AllZip}
use Rattle.std.proofs.lemmas.Result.{MatchResult-weaker}
use Rattle.chunk_run.specs.declared.lanes.Lane.{Lane}
use Rattle.chunk_run.specs.Lanes.{IsDone}
use Rattle.chunk_run.proofs.Parts.{parts_done}
use Rattle.chunk_run.proofs.lanes.work_lanes.Goals as goal

pub returns : goal.returns
returns g c =
    let s = c.args.site.now in
    let lanes = c.args.lanes.items in
    let parts = c.in_ok-parts.parts.items in
    MatchResult-weaker c.collect.result c.collect.ensures
    (λ done are. parts_done s lanes parts done.items (search rules) (λ i d r lt.
    let given = (c.in_ok-parts.ensures.each i r lt).1 in
    subst (λ (lane : Lane). IfOk (get_or parts i r) (λ list. AllZip (IsDone s) lane.jobs.items list.items)) (sym (given.job_is d)) given.call.met) are)
    (λ e no_memory. tt)
