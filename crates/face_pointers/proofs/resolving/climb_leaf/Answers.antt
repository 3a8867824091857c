use Rattle.std.proofs.Common.{sym, subst, subst₂}
use Rattle.agglo_model.specs.Boxes.{IsBoxOf}
use Rattle.agglo_model.specs.Cutting.{Chunking, low_corner, high_corner}
use Rattle.agglo_model.proofs.WaitingCells.{leaf_below}
use Rattle.face_pointers.proofs.LeafBoxes.{cell_is_box}
use Rattle.face_pointers.proofs.resolving.climb_leaf.Goals as goal

pub cell-requires : goal.cell-requires
cell-requires c = leaf_below c.args.cutting.now c.args.leaf c.requires.leaf

pub climb-requires : goal.climb-requires
climb-requires c =
    let t : Chunking = c.args.cutting.now in
    let m = c.args.leaf in
    subst₂ (λ lo hi. IsBoxOf c.args.vol.now.axes lo hi) (sym c.cell.ensures.low) (sym c.cell.ensures.high)
    (subst (λ a. IsBoxOf a (low_corner t m) (high_corner t m)) c.requires.axes
    (cell_is_box t c.cell.ensures.cutting m (leaf_below t m c.requires.leaf)))
