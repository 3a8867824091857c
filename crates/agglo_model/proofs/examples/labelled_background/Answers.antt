use Rattle.agglo_model.proofs.Worked.{on_background_along, on_background_named, on_background_broken}
use Rattle.agglo_model.proofs.examples.labelled_background.Goals as goal

pub returns-clause-along : goal.returns-clause-along
returns-clause-along c = on_background_along

pub returns-clause-named : goal.returns-clause-named
returns-clause-named c = on_background_named

pub returns-clause-broken : goal.returns-clause-broken
returns-clause-broken c = on_background_broken

pub returns-clause-refused : goal.returns-clause-refused
returns-clause-refused c = λ are. on_background_broken are.background
