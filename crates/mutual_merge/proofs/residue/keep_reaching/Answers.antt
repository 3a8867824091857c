use Rattle.std.proofs.Common.{◌∙◌, ◌++◌, ◌∷◌, [], ℕ, List, Bool, length, take, sym, subst}
use Rattle.std.proofs.lemmas.Bool.{false≢true}
use Rattle.std.proofs.lemmas.List.Elements.{All-get_or}
use Rattle.agglo_model.specs.PairOrder.{Threshold}
use Rattle.mutual_merge.specs.declared.links.Link.{Link}
use Rattle.mutual_merge.specs.Linked.{IsLink}
use Rattle.mutual_merge.specs.Left.{KeepsReaching}
use Rattle.mutual_merge.proofs.MovedLinks.{more_links}
use Rattle.mutual_merge.proofs.KeptRegions.{KeepsReaching-skip, KeepsReaching-take}
use Rattle.mutual_merge.proofs.residue.keep_reaching.Goals as goal
use Rattle.mutual_merge.proofs.residue.keep_reaching.Goals.{then-reaches, else-reaches}

pub loop-link-preserved : goal.loop-link-preserved
loop-link-preserved c =
    let t : Threshold = c.args.threshold.now in
    let links : List Link = c.args.links.now in
    let old : List Bool = c.args.kept.now in
    let i : ℕ = c.loop-link.link-index in
    let l : Link = c.link-item.result in
    let more = more_links links i l c.loop-link-test.true c.link-item.is in
    let is : IsLink (length old) l =
    subst (IsLink (length old)) (sym c.link-item.is) (All-get_or (IsLink (length old)) links i l c.loop-link-test.true c.requires) in
    subst (λ ls. KeepsReaching t ls old c.if-reaches.kept) (sym more)
    (elim c.if-reaches.branch [
      | then-reaches w ↦
          subst (KeepsReaching t (take i links ++ l ∷ []) old) (sym w.kept-is)
          (KeepsReaching-take t (take i links) old c.loop-link.kept l c.loop-link.invariant is (c.reaches.ensures.0 w.if-reaches.true))
      | else-reaches w ↦
          subst (KeepsReaching t (take i links ++ l ∷ []) old) (sym w.kept-is)
          (KeepsReaching-skip t (take i links) old c.loop-link.kept l c.loop-link.invariant
          (λ r. false≢true (sym w.if-reaches.false ∙ c.reaches.ensures.1 r)))
    ])
