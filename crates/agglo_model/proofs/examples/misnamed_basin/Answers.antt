use Rattle.agglo_model.proofs.Worked.{by_higher_background, by_higher_along, by_higher_broken}
use Rattle.agglo_model.proofs.examples.misnamed_basin.Goals as goal

pub returns-clause-background : goal.returns-clause-background
returns-clause-background c = by_higher_background

pub returns-clause-along : goal.returns-clause-along
returns-clause-along c = by_higher_along

pub returns-clause-broken : goal.returns-clause-broken
returns-clause-broken c = by_higher_broken

pub returns-clause-refused : goal.returns-clause-refused
returns-clause-refused c = λ are. by_higher_broken are.named
