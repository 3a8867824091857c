use Rattle.std.proofs.Common.{refl}
use Rattle.agglo_model.specs.Axes.{axes_flaw}
use Rattle.agglo_model.specs.TreeFile.{body_flaw, header_flaw, is_alive, merges_in, record_flaw}
use Rattle.agglo_model.proofs.tree_examples.flaws_of_tree_headers.Goals as goal

pub returns-clause-short : goal.returns-clause-short
unfolding axes_flaw body_flaw header_flaw is_alive merges_in record_flaw
returns-clause-short c = refl

pub returns-clause-magic : goal.returns-clause-magic
unfolding axes_flaw body_flaw header_flaw is_alive merges_in record_flaw
returns-clause-magic c = refl

pub returns-clause-zero : goal.returns-clause-zero
unfolding axes_flaw body_flaw header_flaw is_alive merges_in record_flaw
returns-clause-zero c = refl

pub returns-clause-large : goal.returns-clause-large
unfolding axes_flaw body_flaw header_flaw is_alive merges_in record_flaw
returns-clause-large c = refl

pub returns-clause-denominator : goal.returns-clause-denominator
unfolding axes_flaw body_flaw header_flaw is_alive merges_in record_flaw
returns-clause-denominator c = refl

pub returns-clause-count : goal.returns-clause-count
unfolding axes_flaw body_flaw header_flaw is_alive merges_in record_flaw
returns-clause-count c = refl
