use Rattle.std.proofs.Common.{◌≡◌, ◌++◌, [], List, sym, ap, ◌∙◌, subst}
use Rattle.agglo_model.specs.Greedy.{Merge}
use Rattle.agglo_model.specs.RegionGraph.{RegionGraph}
use Rattle.agglo_model.specs.Settling.{Settles}
use Rattle.mutual_merge.specs.Linked.{graph_of}
use Rattle.mutual_merge.specs.Rounds.{Carries}
use Rattle.mutual_merge.proofs.PairRounds.{linked_graph}
use Rattle.mutual_merge.proofs.TrimmedGraphs.{carries_end, carries_trimmed}
use Rattle.mutual_merge.proofs.MergedInto.{carries_on}
use Rattle.mutual_merge.proofs.settling.settle_linked.Goals as goal

pub returns-clause-settles : goal.returns-clause-settles
returns-clause-settles c =
    let t = c.args.threshold.now in
    let faces = c.args.frozen in
    let start : RegionGraph = graph_of c.args.start.regions.items c.args.start.links.items in
    let trimmed : RegionGraph = graph_of c.in_ok-trimmed.trimmed.regions.items c.in_ok-trimmed.trimmed.links.items in
    let chained = c.in_ok-graph.field-0.graph in
    let middle : RegionGraph = graph_of chained.regions.items chained.links.items in
    let swept = c.in_ok-swept.swept in
    let last : RegionGraph = graph_of swept.graph.regions.items swept.graph.links.items in
    let merges : List Merge = c.in_ok-graph.field-0.merges.items in
    let from_start : Carries t faces start [] trimmed =
    carries_trimmed t faces start start trimmed [] (linked_graph c.args.start.regions.items c.args.start.links.items c.requires)
    c.in_ok-trimmed.ensures.left_is (λ more left settles. settles) in
    let along : Carries t faces trimmed merges middle = c.in_ok-graph.ensures.carries in
    let all : Carries t faces start (merges ++ swept.merges.items) last =
    carries_on t faces start trimmed last [] (merges ++ swept.merges.items) from_start
    (carries_on t faces trimmed middle last merges swept.merges.items along c.in_ok-swept.ensures.merged.carries) in
    let noted : merges ++ swept.merges.items ≡ c.extend_from_slice.new.self.items =
    ap (λ ms. merges ++ ms) (sym c.deref.ensures.value) ∙ sym c.in_ok-extend_from_slice.ensures.items in
    subst (λ ms. Settles t faces start ms c.in_ok-residue.residue) noted
    (carries_end t faces start last c.in_ok-residue.residue (merges ++ swept.merges.items) all c.in_ok-swept.ensures.settled c.in_ok-residue.ensures.left)
