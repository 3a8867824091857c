use Rattle.std.proofs.Common.{ap, sym, ◌∙◌, subst}
use Rattle.merge_tree.specs.Renaming.{HoldsFinalNames}
use Rattle.merge_tree.proofs.FinalNames.{labels_renamed}
use Rattle.merge_tree.proofs.renaming.apply.Goals as goal

pub returns : goal.returns
returns c =
    let finals : HoldsFinalNames c.args.merges.now c.deref.result.now =
    subst (HoldsFinalNames c.args.merges.now) (sym c.deref.ensures.value) c.in_ok-names.ensures in
    c.rename.ensures
    ∙ ap (λ l. record c.args.labels.now { labels = l }) (labels_renamed c.args.labels.now.labels c.deref.result.now c.args.merges.now finals)
