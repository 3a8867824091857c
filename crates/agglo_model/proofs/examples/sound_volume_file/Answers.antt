use Rattle.std.proofs.Common.{refl}
use Rattle.agglo_model.specs.Axes.{axes_flaw}
use Rattle.agglo_model.specs.VolumeFile.{header_flaw, body_flaw}
use Rattle.agglo_model.proofs.examples.sound_volume_file.Goals as goal

pub returns-clause-sound : goal.returns-clause-sound
unfolding axes_flaw header_flaw body_flaw
returns-clause-sound c = refl
