use Rattle.std.proofs.Common.{refl}
use Rattle.agglo_model.specs.Axes.{axes_flaw}
use Rattle.agglo_model.specs.VolumeFile.{header_flaw, body_flaw}
use Rattle.agglo_model.proofs.examples.flaws_of_axes.Goals as goal

pub returns-clause-zero : goal.returns-clause-zero
unfolding axes_flaw header_flaw body_flaw
returns-clause-zero c = refl

pub returns-clause-large : goal.returns-clause-large
unfolding axes_flaw header_flaw body_flaw
returns-clause-large c = refl

pub returns-clause-many : goal.returns-clause-many
unfolding axes_flaw header_flaw body_flaw
returns-clause-many c = refl
