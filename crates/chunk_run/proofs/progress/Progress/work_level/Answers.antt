use Rattle.std.proofs.Common.{◌≡◌, ◌+◌, List, length, Option, sym, ap, ◌∙◌, subst, arith}
use Rattle.std.proofs.lemmas.Result.{MatchResult-weaker}
use Rattle.agglo_model.specs.RegionGraph.{RegionGraph}
use Rattle.chunk_run.specs.Lanes.{AreHandedOut, HasRun, HasTaken, IsReady, jobs_in, kid_lists}
use Rattle.chunk_run.proofs.Handed.{all_ready, all_turns, as_many, each_lane}
use Rattle.chunk_run.proofs.Steps.{all_written}
use Rattle.chunk_run.proofs.progress.Progress.work_level.Goals as goal

pub work_lanes-requires-clause-ready : goal.work_lanes-requires-clause-ready
work_lanes-requires-clause-ready g c κs within =
    let s = c.args.site.now in
    let run = c.args.self.now in
    let jobs = jobs_in c.in_ok-lanes.lanes.items in
    let handed = subst (λ l. AreHandedOut s c.args.first c.args.end l c.hand_out.new.waiting jobs) c.deref_mut.ensures.value c.in_ok-lanes.ensures in
    each_lane (IsReady s) c.in_ok-lanes.lanes.items
    (all_ready s c.args.first c.args.end run.waiting.items c.hand_out.new.waiting jobs handed run.merges.items run.levels.items
    c.requires.so_far.so_far c.requires.nodes)

pub take_in-requires-clause-nodes : goal.take_in-requires-clause-nodes
take_in-requires-clause-nodes g c =
    let s = c.args.site.now in
    let run = c.args.self.now in
    let jobs = jobs_in c.in_ok-lanes.lanes.items in
    let handed = subst (λ l. AreHandedOut s c.args.first c.args.end l c.hand_out.new.waiting jobs) c.deref_mut.ensures.value c.in_ok-lanes.ensures in
    let order = c.in_node_order-done.ensures in
    let many = as_many s c.args.first c.args.end run.waiting.items c.hand_out.new.waiting jobs handed c.in_ok-work_lanes.field-0.items
    c.in_node_order-done.result.items c.in_ok-work_lanes.ensures order.same order.ascending in
    omega (arith, many, c.requires.nodes, c.requires.some)

pub take_in-requires-clause-done : goal.take_in-requires-clause-done
take_in-requires-clause-done g c =
    let s = c.args.site.now in
    let run = c.args.self.now in
    let jobs = jobs_in c.in_ok-lanes.lanes.items in
    let after : List (Option RegionGraph) = c.hand_out.new.waiting in
    let handed = subst (λ l. AreHandedOut s c.args.first c.args.end l after jobs) c.deref_mut.ensures.value c.in_ok-lanes.ensures in
    let order = c.in_node_order-done.ensures in
    let sorted = c.in_node_order-done.result.items in
    let many = as_many s c.args.first c.args.end run.waiting.items after jobs handed c.in_ok-work_lanes.field-0.items
    sorted c.in_ok-work_lanes.ensures order.same order.ascending in
    let turns = all_turns s c.args.first c.args.end run.waiting.items after jobs handed c.in_ok-work_lanes.field-0.items
    sorted c.in_ok-work_lanes.ensures order.same order.ascending in
    let taken = handed.taken run.merges.items run.levels.items c.requires.so_far.so_far in
    let end : c.args.end ≡ c.args.first + length sorted = omega (arith, many, c.requires.some) in
    let written = all_written run.waiting.len after run.waiting.items
    (taken.so_far.one_place_each ∙ sym c.requires.so_far.so_far.one_place_each)
    (sym (ap length c.deref_mut.ensures.value) ∙ c.deref_mut.ensures.len) in (
      kid_lists handed.jobs,
      turns,
      subst (λ l. HasTaken s c.args.first c.args.first (c.args.first + length sorted) l run.merges.items run.levels.items (kid_lists handed.jobs)) (sym written)
          (subst (λ p. HasTaken s c.args.first c.args.first p after run.merges.items run.levels.items (kid_lists handed.jobs)) end taken),
    )

pub returns : goal.returns
returns g c =
    let s = c.args.site.now in
    let run = c.args.self.now in
    let jobs = jobs_in c.in_ok-lanes.lanes.items in
    let after : List (Option RegionGraph) = c.hand_out.new.waiting in
    let handed = subst (λ l. AreHandedOut s c.args.first c.args.end l after jobs) c.deref_mut.ensures.value c.in_ok-lanes.ensures in
    let order = c.in_node_order-done.ensures in
    let sorted = c.in_node_order-done.result.items in
    let many = as_many s c.args.first c.args.end run.waiting.items after jobs handed c.in_ok-work_lanes.field-0.items
    sorted c.in_ok-work_lanes.ensures order.same order.ascending in
    let end : c.args.first + length sorted ≡ c.args.end = omega (arith, many, c.requires.some) in
    let new = c.take_in.new.self in
    MatchResult-weaker c.take_in.result c.take_in.ensures
    (λ u has. subst (λ m. HasRun s m new.waiting.items new.merges.items new.worked.items new.levels.items) end has)
    (λ e no_memory. tt)
