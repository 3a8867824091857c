use Rattle.parent_join.proofs.FewEdges.{residues_fit}
use Rattle.parent_join.proofs.laws.residues_fit.Goals as goal

pub returns : goal.returns
returns c = residues_fit
