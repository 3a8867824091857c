use Rattle.std.proofs.Common.{refl}
use Rattle.std.specs.Fmt.{digits}
use Rattle.agglo_model.proofs.examples.note_with_background.Goals as goal

pub returns : goal.returns
unfolding digits
returns c = refl
