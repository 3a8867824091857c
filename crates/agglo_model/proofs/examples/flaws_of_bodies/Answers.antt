use Rattle.std.proofs.Common.{refl}
use Rattle.agglo_model.specs.Axes.{axes_flaw}
use Rattle.agglo_model.specs.VolumeFile.{header_flaw, body_flaw}
use Rattle.agglo_model.proofs.examples.flaws_of_bodies.Goals as goal

pub returns-clause-short : goal.returns-clause-short
unfolding axes_flaw header_flaw body_flaw
returns-clause-short c = refl

pub returns-clause-long : goal.returns-clause-long
unfolding axes_flaw header_flaw body_flaw
returns-clause-long c = refl
