use Rattle.std.proofs.Common.{◌∙◌}
use Rattle.std.specs.Prelude.{bit_and}
use Rattle.parent_join.specs.Kids.{shared_faces}
use Rattle.parent_join.proofs.KidLists.{faces-kept}
use Rattle.parent_join.proofs.kids.faces_kept.Goals as goal

pub returns : goal.returns
returns c =
    (λ i. bit_and (c.artificial.ensures.value i) ((c.faces_shared.ensures
    ∙ (λ j. shared_faces (c.cell.ensures.low j) (c.cell.ensures.high j) (c.cell-2.ensures.low j) (c.cell-2.ensures.high j))) i))
    ∙ faces-kept c.args.cutting.now c.args.m c.args.child
