use Rattle.std.proofs.Common.{◌≡◌, ◌∙◌, ℕ, List, map, sym, subst}
use Rattle.std.specs.Prelude.{nat_eq}
use Rattle.agglo_model.specs.PairOrder.{Threshold}
use Rattle.agglo_model.specs.RegionGraph.{Region, RegionGraph}
use Rattle.mutual_merge.specs.declared.links.Link.{Link}
use Rattle.mutual_merge.specs.Linked.{graph_of}
use Rattle.mutual_merge.specs.Trimmed.{kept_graph}
use Rattle.mutual_merge.specs.Parts.{IsGroup}
use Rattle.mutual_merge.proofs.GroupParts.{group_is}
use Rattle.mutual_merge.proofs.group_parts.settle_group.Goals as goal

pub returns : goal.returns
returns c =
    let t : Threshold = c.args.threshold.now in
    let regions : List Region = c.args.graph.now.regions.items in
    let links : List Link = c.args.graph.now.links.items in
    let groups : List ℕ = c.args.groups.now in
    let part : RegionGraph = graph_of c.in_ok-part.part.regions.items c.in_ok-part.part.links.items in
    let kept : c.deref.result.now ≡ map (λ other. nat_eq other c.args.group) groups = c.deref.ensures.value ∙ c.in_ok-kept.ensures in
    let same : kept_graph regions links (map (λ other. nat_eq other c.args.group) groups) ≡ part =
    (λ i. kept_graph regions links (sym kept i)) ∙ c.in_ok-part.ensures.graph_is in (
      part,
      subst (IsGroup t regions links groups c.args.group) same
          (group_is t regions links c.requires.groups.0 groups c.args.group c.requires.linked c.requires.groups.1),
      (c.in_ok-settled.settled.residue, c.in_ok-settled.ensures.settles),
    )
