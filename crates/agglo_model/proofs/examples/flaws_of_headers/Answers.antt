use Rattle.std.proofs.Common.{refl}
use Rattle.agglo_model.specs.Axes.{axes_flaw}
use Rattle.agglo_model.specs.VolumeFile.{header_flaw, body_flaw}
use Rattle.agglo_model.proofs.examples.flaws_of_headers.Goals as goal

pub returns-clause-short : goal.returns-clause-short
unfolding axes_flaw header_flaw body_flaw
returns-clause-short c = refl

pub returns-clause-magic : goal.returns-clause-magic
unfolding axes_flaw header_flaw body_flaw
returns-clause-magic c = refl

pub returns-clause-channels : goal.returns-clause-channels
unfolding axes_flaw header_flaw body_flaw
returns-clause-channels c = refl

pub returns-clause-reserved : goal.returns-clause-reserved
unfolding axes_flaw header_flaw body_flaw
returns-clause-reserved c = refl
