use Rattle.std.proofs.Common.{◌++◌, [], ◌∷◌, Ok, sym, subst}
use Rattle.chunk_run.specs.Lanes.{ArePartsDone}
use Rattle.chunk_run.proofs.Parts.{parts_more}
use Rattle.chunk_run.proofs.lanes.collect.Goals as goal

pub loop-part-preserved : goal.loop-part-preserved
loop-part-preserved c =
    let list = c.in_ok-part.part in
    let yielded = c.loop-part.yielded in
    subst (λ part. ArePartsDone (yielded ++ part ∷ []) c.append.new.self.items) (sym c.in_ok-part.was)
    (subst (ArePartsDone (yielded ++ Ok list ∷ [])) (sym c.in_ok-append.ensures.items)
    (parts_more yielded c.loop-part.done.items list c.loop-part.invariant))
