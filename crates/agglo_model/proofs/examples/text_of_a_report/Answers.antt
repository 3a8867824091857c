use Rattle.std.proofs.Common.{refl}
use Rattle.std.specs.Fmt.{digits}
use Rattle.agglo_model.proofs.examples.text_of_a_report.Goals as goal

pub returns : goal.returns
unfolding digits
returns c = refl
