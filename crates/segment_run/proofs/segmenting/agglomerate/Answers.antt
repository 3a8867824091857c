use Rattle.std.proofs.Common.{subst}
use Rattle.region_graph.specs.SiteView.{IsSite}
use Rattle.segment_run.proofs.Ending.{ended_at, few_counted, greedy_names}
use Rattle.segment_run.proofs.TiesApart.{ties_apart}
use Rattle.segment_run.proofs.segmenting.agglomerate.Goals as goal

pub new-site-requires-clause-connected : goal.new-site-requires-clause-connected
new-site-requires-clause-connected g c =
    c.basins_are_connected.ensures c.args.vol.now c.requires.basins.0 c.args.labels.now.labels c.requires.basins.1

pub ordered-requires-clause-apart : goal.ordered-requires-clause-apart
ordered-requires-clause-apart g c =
    let done = c.in_ok-done.done in
    let run = c.in_ok-done.ensures.run in
    let end = ended_at c.new-site.result _ c.new-site.ensures run.0 done.merges.items done.levels.items
    run.1.so_far c.works_are_a_run.ensures in
    λ κs below. ties_apart c.args.vol.now c.args.settings.now.threshold c.args.labels.now.labels done.merges.items end.run

pub returns-clause-greedy : goal.returns-clause-greedy
returns-clause-greedy g c =
    let done = c.in_ok-done.done in
    let run = c.in_ok-done.ensures.run in
    let end = ended_at c.new-site.result _ c.new-site.ensures run.0 done.merges.items done.levels.items
    run.1.so_far c.works_are_a_run.ensures in
    let order = c.in_ok-ordered.ensures in
    (c.sorted_merges_are_greedy.ensures c.args.vol.now c.args.settings.now.threshold c.args.labels.now.labels done.merges.items
    c.in_ok-ordered.field-0.items end.run order.same_merges order.falling).0

pub returns-clause-small : goal.returns-clause-small
returns-clause-small g c =
    let done = c.in_ok-done.done in
    let run = c.in_ok-done.ensures.run in
    let end = ended_at c.new-site.result _ c.new-site.ensures run.0 done.merges.items done.levels.items
    run.1.so_far c.works_are_a_run.ensures in
    let order = c.in_ok-ordered.ensures in
    let greedy = (c.sorted_merges_are_greedy.ensures c.args.vol.now c.args.settings.now.threshold c.args.labels.now.labels done.merges.items
    c.in_ok-ordered.field-0.items end.run order.same_merges order.falling).0 in
    let site = subst IsSite c.new-site.ensures c.run_tree.ensures.site in
    greedy_names c.greedy_merges_are_lawful.ensures c.bounded_labels.ensures c.args.vol.now site.whole c.requires.basins.0
    c.args.labels.now.labels c.requires.basins.1 c.args.settings.now.threshold c.in_ok-ordered.field-0.items greedy

pub returns-clause-levels : goal.returns-clause-levels
returns-clause-levels g c =
    let done = c.in_ok-done.done in
    let run = c.in_ok-done.ensures.run in
    (ended_at c.new-site.result _ c.new-site.ensures run.0 done.merges.items done.levels.items
    run.1.so_far c.works_are_a_run.ensures).levels_are

pub returns-clause-few : goal.returns-clause-few
returns-clause-few g c =
    let done = c.in_ok-done.done in
    let run = c.in_ok-done.ensures.run in
    let end = ended_at c.new-site.result _ c.new-site.ensures run.0 done.merges.items done.levels.items
    run.1.so_far c.works_are_a_run.ensures in
    let site = subst IsSite c.new-site.ensures c.run_tree.ensures.site in
    few_counted c.bounded_labels.ensures c.args.vol.now site.whole c.requires.basins.0 c.args.labels.now.labels
    c.requires.basins.1 c.args.settings.now.threshold c.args.cutting.now done.levels.items end.levels_are
