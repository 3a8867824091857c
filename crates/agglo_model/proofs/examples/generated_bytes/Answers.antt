use Rattle.std.proofs.Common.{refl}
use Rattle.agglo_model.specs.Generated.{number_after}
use Rattle.agglo_model.proofs.examples.generated_bytes.Goals as goal

pub returns-clause-zero : goal.returns-clause-zero
unfolding number_after
returns-clause-zero c = refl

pub returns-clause-seven : goal.returns-clause-seven
unfolding number_after
returns-clause-seven c = refl
