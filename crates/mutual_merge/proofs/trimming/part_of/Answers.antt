use Rattle.std.proofs.Common.{◌≡◌, ◌∙◌, ℕ, List, Bool, sym, subst}
use Rattle.agglo_model.specs.RegionGraph.{Region}
use Rattle.mutual_merge.specs.declared.links.Link.{Link}
use Rattle.mutual_merge.specs.Trimmed.{AreKept, IsPart, kept_links}
use Rattle.mutual_merge.proofs.KeptPlaces.{part_is}
use Rattle.mutual_merge.proofs.trimming.part_of.Goals as goal

pub returns : goal.returns
returns c =
    let regions : List Region = c.args.graph.now.regions.items in
    let links : List Link = c.args.graph.now.links.items in
    let kept : List Bool = c.args.kept.now in
    let left : List Region = c.in_ok-left.left.regions.items in
    let places : List ℕ = c.in_ok-left.left.places.items in
    let are_kept : AreKept regions kept left places =
    subst (λ rs. AreKept rs kept left places) c.deref.ensures.value c.in_ok-left.ensures in
    let made : c.in_ok-links.links.items ≡ kept_links kept places links =
    c.in_ok-links.ensures ∙ (λ i. kept_links kept (c.deref-3.ensures.value i) (c.deref-2.ensures.value i)) in
    subst (IsPart regions links kept left) (sym made)
    (part_is regions links kept left places c.requires.linked are_kept)
