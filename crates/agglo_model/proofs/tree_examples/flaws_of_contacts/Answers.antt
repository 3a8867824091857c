use Rattle.std.proofs.Common.{refl}
use Rattle.agglo_model.specs.Axes.{axes_flaw}
use Rattle.agglo_model.specs.TreeFile.{body_flaw, header_flaw, is_alive, merges_in, record_flaw}
use Rattle.agglo_model.proofs.tree_examples.flaws_of_contacts.Goals as goal

pub returns-clause-no_edge : goal.returns-clause-no_edge
unfolding axes_flaw body_flaw header_flaw is_alive merges_in record_flaw
returns-clause-no_edge c = refl

pub returns-clause-many_edges : goal.returns-clause-many_edges
unfolding axes_flaw body_flaw header_flaw is_alive merges_in record_flaw
returns-clause-many_edges c = refl

pub returns-clause-great_sum : goal.returns-clause-great_sum
unfolding axes_flaw body_flaw header_flaw is_alive merges_in record_flaw
returns-clause-great_sum c = refl

pub returns-clause-great_tie : goal.returns-clause-great_tie
unfolding axes_flaw body_flaw header_flaw is_alive merges_in record_flaw
returns-clause-great_tie c = refl

pub returns-clause-tie_of_eight_bytes : goal.returns-clause-tie_of_eight_bytes
unfolding axes_flaw body_flaw header_flaw is_alive merges_in record_flaw
returns-clause-tie_of_eight_bytes c = refl
