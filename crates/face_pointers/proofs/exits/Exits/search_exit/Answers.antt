use Rattle.std.proofs.Common.{◌∙◌, sym, subst}
use Rattle.face_pointers.specs.Exits.{LeadsOn, TellsOf}
use Rattle.face_pointers.specs.Pieces.{AreParts, AreVoxels, Parts, leaf_voxel}
use Rattle.face_pointers.proofs.Pieces.{piece_read, voxels_more}
use Rattle.face_pointers.proofs.exits.Exits.search_exit.Goals as goal

pub returns-in_ok-push : goal.returns-in_ok-push
returns-in_ok-push c =
    let p : Parts = c.args.self.now in
    let h = subst (λ q. AreParts q c.self.inside.pieces.items) c.self.view_is c.self.invariant in
    let piece = piece_read p c.self.inside.pieces.items c.args.leaf c.index.result.now h c.requires.leaf c.index.ensures in
    let tells : LeadsOn p.grid p.low (leaf_voxel p c.args.leaf c.args.i) c.in-Exit.next =
    subst (λ e. TellsOf p.grid p.low (leaf_voxel p c.args.leaf c.args.i) e) (sym c.get.ensures ∙ c.in-Exit.is) (piece.tells c.args.i c.requires.voxel) in
    subst (λ l. AreVoxels p l) (sym c.in_ok-push.ensures.items) (voxels_more p c.args.ways.now.items c.in-Exit.next c.requires.voxels tells.voxel)
