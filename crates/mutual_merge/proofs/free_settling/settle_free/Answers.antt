use Rattle.std.proofs.Common.{◌≡◌, ℕ, ◌+◌, ◌<◌, [], List, Ok, Result, Vec, IfOk, length, get_or, flat_map, rules, sym, ap, ◌∙◌, subst, arith}
use Rattle.std.proofs.lemmas.List.{get_or-map, length-map}
use Rattle.agglo_model.specs.Greedy.{Merge}
use Rattle.agglo_model.specs.RegionGraph.{Region, RegionGraph}
use Rattle.agglo_model.specs.Settling.{Settles}
use Rattle.mutual_merge.specs.declared.links.Link.{Link}
use Rattle.mutual_merge.specs.Linked.{graph_of}
use Rattle.mutual_merge.specs.Parts.{SettlesGroup, no_graph}
use Rattle.mutual_merge.proofs.JoinedLists.{lists_settle}
use Rattle.mutual_merge.proofs.PairRounds.{linked_graph}
use Rattle.mutual_merge.proofs.TrimmedGraphs.{IsTrimmed-left, trimmed_settles}
use Rattle.mutual_merge.proofs.free_settling.settle_free.Goals as goal

pub returns-clause-settles : goal.returns-clause-settles
returns-clause-settles g c =
    let t = c.args.threshold.now in
    let regions : List Region = c.in_ok-start.start.regions.items in
    let links : List Link = c.in_ok-start.start.links.items in
    let kept : List Region = c.in_ok-trimmed.trimmed.regions.items in
    let kept_links : List Link = c.in_ok-trimmed.trimmed.links.items in
    let groups : List ℕ = c.in_ok-groups.groups.items in
    let merges : List Merge = c.in_ok-merges.merges.items in
    let trimmed = c.in_ok-trimmed.ensures in
    let apart : Settles t 0 (graph_of kept kept_links) merges no_graph =
    lists_settle t kept kept_links groups c.args.workers trimmed.linked c.in_ok-groups.ensures
    c.in_ok-lists.lists.items merges (search rules)
    (λ i r lt. (c.in_ok-lists.ensures.each i r lt).1.met) c.in_ok-merges.ensures in
    let whole : Settles t 0 (graph_of regions links) merges no_graph =
    trimmed_settles t 0 (graph_of regions links) (graph_of kept kept_links) merges apart.last no_graph
    (linked_graph regions links c.in_ok-start.ensures.linked)
    (IsTrimmed-left t 0 (graph_of regions links) (graph_of kept kept_links) trimmed.left_is) apart.settled apart.left_is in
    let nothing : no_graph ≡ c.of-residue.result =
    sym (c.of-residue.ensures ∙ (λ i. record { regions = c.new.ensures.items i; edges = c.new-2.ensures.items i })) in
    subst (λ left. Settles t 0 c.args.graph merges left) nothing
    (subst (λ graph. Settles t 0 graph merges no_graph) c.in_ok-start.ensures.same whole)
