use Rattle.std.proofs.Common.{subst}
use Rattle.face_pointers.specs.Exits.{TellsOf}
use Rattle.face_pointers.specs.Pieces.{Parts}
use Rattle.face_pointers.proofs.Telling.{label_from}
use Rattle.face_pointers.proofs.exits.Exits.told.Goals as goal

pub returns-in-Exit : goal.returns-in-Exit
returns-in-Exit c = λ v tells.
    let p : Parts = c.args.self.now in
    label_from p.grid p.low v c.in-Exit.next c.label.result (subst (λ e. TellsOf p.grid p.low v e) c.in-Exit.is tells) c.label.ensures
