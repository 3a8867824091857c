use Rattle.std.proofs.Common.{List, Bool, subst}
use Rattle.agglo_model.specs.RegionGraph.{Region}
use Rattle.mutual_merge.specs.declared.links.Link.{Link}
use Rattle.mutual_merge.specs.Left.{AreLeft}
use Rattle.mutual_merge.specs.Trimmed.{IsPart}
use Rattle.mutual_merge.proofs.KeptPlaces.{trimmed}
use Rattle.mutual_merge.proofs.trimming.trim.Goals as goal

pub returns : goal.returns
returns c =
    let regions : List Region = c.args.graph.now.regions.items in
    let links : List Link = c.args.graph.now.links.items in
    let kept : List Bool = c.in_ok-kept.kept.items in
    let left : List Region = c.in_ok-part.part.regions.items in
    let left_links : List Link = c.in_ok-part.part.links.items in
    let are_left : AreLeft c.args.threshold.now c.args.frozen regions links kept =
    subst (λ rs. AreLeft c.args.threshold.now c.args.frozen rs links kept) c.deref.ensures.value
    (subst (λ ls. AreLeft c.args.threshold.now c.args.frozen c.deref.result.now ls kept) c.deref-2.ensures.value c.in_ok-kept.ensures) in
    let part : IsPart regions links kept left left_links =
    subst (λ ks. IsPart regions links ks left left_links) c.deref-3.ensures.value c.in_ok-part.ensures in
    trimmed c.args.threshold.now c.args.frozen regions links kept left left_links c.requires are_left part
