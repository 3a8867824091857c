use Rattle.std.proofs.Common.{◌∙◌, sym, subst}
use Rattle.agglo_model.specs.Grid.{IsWhole}
use Rattle.steepest_ascent.specs.Progress.{IsLabelOf}
use Rattle.face_pointers.specs.Exits.{LeadsOn}
use Rattle.face_pointers.specs.Pieces.{Parts}
use Rattle.face_pointers.proofs.Telling.{label_to, leads_falls}
use Rattle.face_pointers.proofs.exits.Exits.follow.Goals as goal

pub put-requires-clause-right : goal.put-requires-clause-right
put-requires-clause-right c =
    subst (λ (q : Parts). IsLabelOf q.grid q.low c.loop-next.here c.label-label.result) (sym c.loop-next.invariant.same) c.loop-next.invariant.right

pub loop-next-smaller : goal.loop-next-smaller
loop-next-smaller c =
    let p : Parts = c.args.self.now in
    leads_falls p.grid p.low c.loop-next.here c.in-Exit.next
    (subst (λ (q : Parts). IsWhole q.grid) c.loop-next.invariant.same c.in-Exit.ensures.whole)
    (subst (λ (q : Parts). LeadsOn q.grid q.low c.loop-next.here c.in-Exit.next) c.loop-next.invariant.same c.in-Exit.ensures.tells)

pub loop-next-preserved : goal.loop-next-preserved
loop-next-preserved c =
    let p : Parts = c.args.self.now in
    let tells = subst (λ (q : Parts). LeadsOn q.grid q.low c.loop-next.here c.in-Exit.next) c.loop-next.invariant.same c.in-Exit.ensures.tells in
    record {
      same = c.put.ensures ∙ c.loop-next.invariant.same;
      voxel = tells.voxel;
      right = label_to p.grid p.low c.loop-next.here c.in-Exit.next c.label-label.result tells c.loop-next.invariant.right;
    }
