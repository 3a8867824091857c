use Rattle.work_laws.proofs.Turns.{residues_stay}
use Rattle.work_laws.proofs.residues_stay.Goals as goal

pub returns : goal.returns
returns c = residues_stay
