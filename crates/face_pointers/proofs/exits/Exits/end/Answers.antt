use Rattle.std.proofs.Common.{sym, subst, subst₂}
use Rattle.face_pointers.specs.Exits.{TellsOf}
use Rattle.face_pointers.specs.Pieces.{AreParts, Parts}
use Rattle.face_pointers.proofs.Pieces.{piece_read}
use Rattle.face_pointers.proofs.Runs.{run_own, run_voxel}
use Rattle.face_pointers.proofs.exits.Exits.end.Goals as goal

pub returns-clause-tells : goal.returns-clause-tells
returns-clause-tells c =
    let p : Parts = c.args.self.now in
    let run = c.run_from-run.result in
    let is = c.run_from-run.ensures in
    let h = subst (λ q. AreParts q c.self.inside.pieces.items) c.self.view_is c.self.invariant in
    subst₂ (λ v e. TellsOf p.grid p.low v e) (run_voxel p c.args.v run is) (sym c.get.ensures)
    ((piece_read p c.self.inside.pieces.items run.leaf c.index.result.now h is.leaf c.index.ensures).tells run.own (run_own p c.args.v run is))
