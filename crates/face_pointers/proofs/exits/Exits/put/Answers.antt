use Rattle.std.proofs.Common.{◌<◌, List, set, sym, subst}
use Rattle.agglo_model.specs.Axes.{voxel_count}
use Rattle.steepest_ascent.specs.CellEnds.{CellEnds}
use Rattle.steepest_ascent.specs.Progress.{IsLabelOf}
use Rattle.face_pointers.specs.Pieces.{AreParts, Parts}
use Rattle.face_pointers.proofs.Pieces.{parts_after, piece_grid, piece_read}
use Rattle.face_pointers.proofs.Runs.{run_own, run_voxel}
use Rattle.face_pointers.proofs.exits.Exits.put.Goals as goal

pub put-requires : goal.put-requires
put-requires c =
    let p : Parts = c.args.self.now in
    let run = c.run_from-run.result in
    let is = c.run_from-run.ensures in
    let piece : CellEnds = c.index_mut-piece.result.now in
    let h = subst (λ q. AreParts q c.self.inside.pieces.items) c.self.view_is c.self.invariant in
    let told = piece_read p c.self.inside.pieces.items run.leaf piece h is.leaf c.index_mut-piece.ensures.value in
    subst (λ a. run.own < voxel_count a) (sym (piece_grid p run.leaf piece told)) (run_own p c.args.v run is)

pub invariant_of-self : goal.invariant_of-self
invariant_of-self c =
    let p : Parts = c.args.self.now in
    let run = c.run_from-run.result in
    let is = c.run_from-run.ensures in
    let items : List CellEnds = c.self.inside.pieces.items in
    let piece : CellEnds = c.index_mut-piece.result.now in
    let h = subst (λ q. AreParts q items) c.self.view_is c.self.invariant in
    let right = subst (λ v. IsLabelOf p.grid p.low v c.args.label) (sym (run_voxel p c.args.v run is)) c.requires.right in
    subst (λ q. AreParts q (set items run.leaf c.put.new.self)) (sym c.self.view_is)
    (subst (λ e. AreParts p (set items run.leaf e)) (sym c.put.ensures)
    (parts_after p items run.leaf run.own c.args.label piece h is.leaf c.index_mut-piece.ensures.value (run_own p c.args.v run is) right))
