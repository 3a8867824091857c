use Rattle.std.proofs.Common.{◌<◌, ◌∙◌, ℕ, List, length, get_or, ap, sym, subst, arith}
use Rattle.std.proofs.lemmas.List.{length_push}
use Rattle.agglo_model.specs.Cutting.{Chunking}
use Rattle.agglo_model.specs.Grid.{Grid}
use Rattle.steepest_ascent.specs.CellEnds.{CellEnds}
use Rattle.face_pointers.specs.Pieces.{IsLeafClimb}
use Rattle.basin_checks.proofs.PiecesInOrder.{climb_more}
use Rattle.basin_checks.proofs.tests.basins.climbs.Goals as goal

pub loop-leaf-preserved : goal.loop-leaf-preserved
loop-leaf-preserved c =
    let g : Grid = c.args.vol.now in
    let t : Chunking = c.args.cutting.now in
    let piece : CellEnds = c.in_ok-piece.piece in
    let items = c.in_ok-push.ensures.items in
    record {
      one_each = ap length items ∙ length_push c.loop-leaf.pieces.items piece ∙ omega (arith, c.loop-leaf.invariant.one_each);
      each = subst (λ (l : List CellEnds). (m : ℕ) (d : CellEnds) → m < length l → IsLeafClimb g c.args.low t m (get_or l m d)) (sym items)
          (climb_more g c.args.low t c.loop-leaf.leaf c.loop-leaf.pieces.items piece c.loop-leaf.invariant.one_each c.loop-leaf.invariant.each c.in_ok-piece.ensures);
    }
