use Rattle.std.proofs.Common.{refl}
use Rattle.agglo_model.specs.Axes.{axes_flaw}
use Rattle.agglo_model.specs.TreeFile.{body_flaw, header_flaw, is_alive, merges_in, record_flaw}
use Rattle.agglo_model.proofs.tree_examples.first_flaws_of_records.Goals as goal

pub returns-clause-names : goal.returns-clause-names
unfolding axes_flaw body_flaw header_flaw is_alive merges_in record_flaw
returns-clause-names c = refl

pub returns-clause-contact : goal.returns-clause-contact
unfolding axes_flaw body_flaw header_flaw is_alive merges_in record_flaw
returns-clause-contact c = refl

pub returns-clause-earlier : goal.returns-clause-earlier
unfolding axes_flaw body_flaw header_flaw is_alive merges_in record_flaw
returns-clause-earlier c = refl
