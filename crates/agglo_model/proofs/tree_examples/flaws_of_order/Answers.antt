use Rattle.std.proofs.Common.{refl}
use Rattle.agglo_model.specs.Axes.{axes_flaw}
use Rattle.agglo_model.specs.TreeFile.{body_flaw, header_flaw, is_alive, merges_in, record_flaw}
use Rattle.agglo_model.proofs.tree_examples.flaws_of_order.Goals as goal

pub returns-clause-exchanged : goal.returns-clause-exchanged
unfolding axes_flaw body_flaw header_flaw is_alive merges_in record_flaw
returns-clause-exchanged c = refl

pub returns-clause-same_rank : goal.returns-clause-same_rank
unfolding axes_flaw body_flaw header_flaw is_alive merges_in record_flaw
returns-clause-same_rank c = refl

pub returns-clause-below : goal.returns-clause-below
unfolding axes_flaw body_flaw header_flaw is_alive merges_in record_flaw
returns-clause-below c = refl
