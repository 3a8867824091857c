use Rattle.std.proofs.Common.{refl}
use Rattle.agglo_model.specs.Axes.{axes_flaw}
use Rattle.agglo_model.specs.TreeFile.{body_flaw, header_flaw, is_alive, merges_in, record_flaw}
use Rattle.agglo_model.proofs.tree_examples.flaws_of_names.Goals as goal

pub returns-clause-background : goal.returns-clause-background
unfolding axes_flaw body_flaw header_flaw is_alive merges_in record_flaw
returns-clause-background c = refl

pub returns-clause-same : goal.returns-clause-same
unfolding axes_flaw body_flaw header_flaw is_alive merges_in record_flaw
returns-clause-same c = refl

pub returns-clause-large : goal.returns-clause-large
unfolding axes_flaw body_flaw header_flaw is_alive merges_in record_flaw
returns-clause-large c = refl

pub returns-clause-survivor_gone : goal.returns-clause-survivor_gone
unfolding axes_flaw body_flaw header_flaw is_alive merges_in record_flaw
returns-clause-survivor_gone c = refl

pub returns-clause-absorbed_twice : goal.returns-clause-absorbed_twice
unfolding axes_flaw body_flaw header_flaw is_alive merges_in record_flaw
returns-clause-absorbed_twice c = refl
