use Rattle.std.proofs.Common.{◌≡◌, ◌+◌, sym, subst, arith}
use Rattle.steepest_ascent.specs.Progress.{IsLabelOf}
use Rattle.face_pointers.specs.Exits.{TellsOf}
use Rattle.face_pointers.specs.Pieces.{AreParts, Parts}
use Rattle.face_pointers.proofs.Runs.{labels_more, run_fits, run_index, run_tells}
use Rattle.face_pointers.proofs.exits.Exits.fill_run.Goals as goal

pub overflow_add-run : goal.overflow_add-run
overflow_add-run c =
    let p : Parts = c.args.self.now in
    let h = subst (λ q. AreParts q c.self.inside.pieces.items) c.self.view_is c.self.invariant in
    omega (arith, run_fits p (c.args.first + c.args.done) c.loop-k.k c.run_from-run.result h.cut c.run_from-run.ensures (omega (arith, c.min-length.ensures)))

pub get-requires : goal.get-requires
get-requires c =
    let p : Parts = c.args.self.now in
    let h = subst (λ q. AreParts q c.self.inside.pieces.items) c.self.view_is c.self.invariant in
    run_index p c.self.inside.pieces.items (c.args.first + c.args.done) c.loop-k.k c.run_from-run.result c.index-piece.result.now h
    c.run_from-run.ensures c.index-piece.ensures (omega (arith, c.min-length.ensures))

pub told-requires : goal.told-requires
told-requires c =
    let p : Parts = c.args.self.now in
    let v = c.args.first + c.args.done in
    let h = subst (λ q. AreParts q c.self.inside.pieces.items) c.self.view_is c.self.invariant in (
      v + c.loop-k.k,
      subst (λ e. TellsOf p.grid p.low (v + c.loop-k.k) e) (sym c.get.ensures)
          (run_tells p c.self.inside.pieces.items v c.loop-k.k c.run_from-run.result c.index-piece.result.now h
          c.run_from-run.ensures c.index-piece.ensures (omega (arith, c.min-length.ensures))),
    )

pub loop-k-preserved : goal.loop-k-preserved
loop-k-preserved c = λ j below.
    let p : Parts = c.args.self.now in
    let v = c.args.first + c.args.done in
    let h = subst (λ q. AreParts q c.self.inside.pieces.items) c.self.view_is c.self.invariant in
    let tells = subst (λ e. TellsOf p.grid p.low (v + c.loop-k.k) e) (sym c.get.ensures)
    (run_tells p c.self.inside.pieces.items v c.loop-k.k c.run_from-run.result c.index-piece.result.now h
    c.run_from-run.ensures c.index-piece.ensures (omega (arith, c.min-length.ensures))) in
    let voxel : v + c.loop-k.k ≡ c.args.first + (c.args.done + c.loop-k.k) = omega arith in
    labels_more p c.args.first c.loop-k.part (c.args.done + c.loop-k.k) c.told.result (omega (arith, c.min-length.ensures))
    c.loop-k.invariant (subst (λ u. IsLabelOf p.grid p.low u c.told.result) voxel (c.told.ensures (v + c.loop-k.k) tells)) j (omega arith)
