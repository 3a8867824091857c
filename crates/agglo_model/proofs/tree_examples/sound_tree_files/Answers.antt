use Rattle.std.proofs.Common.{refl}
use Rattle.agglo_model.specs.Axes.{axes_flaw}
use Rattle.agglo_model.specs.TreeFile.{body_flaw, header_flaw, is_alive, merges_in, record_flaw}
use Rattle.agglo_model.proofs.tree_examples.sound_tree_files.Goals as goal

pub returns-clause-one : goal.returns-clause-one
unfolding axes_flaw body_flaw header_flaw is_alive merges_in record_flaw
returns-clause-one c = refl

pub returns-clause-held : goal.returns-clause-held
unfolding axes_flaw body_flaw header_flaw is_alive merges_in record_flaw
returns-clause-held c = refl

pub returns-clause-three : goal.returns-clause-three
unfolding axes_flaw body_flaw header_flaw is_alive merges_in record_flaw
returns-clause-three c = refl

pub returns-clause-held_three : goal.returns-clause-held_three
unfolding axes_flaw body_flaw header_flaw is_alive merges_in record_flaw
returns-clause-held_three c = refl
