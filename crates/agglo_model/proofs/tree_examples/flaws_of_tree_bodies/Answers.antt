use Rattle.std.proofs.Common.{refl}
use Rattle.agglo_model.specs.Axes.{axes_flaw}
use Rattle.agglo_model.specs.TreeFile.{body_flaw, header_flaw, is_alive, merges_in, record_flaw}
use Rattle.agglo_model.proofs.tree_examples.flaws_of_tree_bodies.Goals as goal

pub returns-clause-short : goal.returns-clause-short
unfolding axes_flaw body_flaw header_flaw is_alive merges_in record_flaw
returns-clause-short c = refl

pub returns-clause-long : goal.returns-clause-long
unfolding axes_flaw body_flaw header_flaw is_alive merges_in record_flaw
returns-clause-long c = refl
