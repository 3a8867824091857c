use Rattle.std.proofs.Common.{List, ℕ, subst}
use Rattle.std.specs.Prelude.{All}
use Rattle.std.proofs.lemmas.List.{take_all}
use Rattle.std.proofs.lemmas.List.Elements.{All-more}
use Rattle.agglo_model.specs.PairOrder.{Threshold}
use Rattle.mutual_merge.specs.Parts.{AreTogether}
use Rattle.mutual_merge.proofs.groups.are_together.Goals as goal

pub loop-link-preserved : goal.loop-link-preserved
loop-link-preserved c =
    let t : Threshold = c.args.threshold.now in
    let groups : List ℕ = c.args.groups.now in
    All-more (AreTogether t groups) c.args.links.now c.loop-link.link-index c.link-item.result c.loop-link-test.true c.loop-link.invariant
    (subst (AreTogether t groups) c.link-item.is (c.is_together.ensures c.if-not-is_together.false))

pub returns : goal.returns
returns c =
    λ _. subst (All (AreTogether c.args.threshold.now c.args.groups.now))
    (take_all c.loop-link.link-index c.args.links.now c.loop-link-test.false) c.loop-link.invariant
