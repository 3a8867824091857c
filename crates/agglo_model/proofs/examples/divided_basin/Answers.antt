use Rattle.agglo_model.proofs.Worked.{halves_background, halves_named, halves_broken}
use Rattle.agglo_model.proofs.examples.divided_basin.Goals as goal

pub returns-clause-background : goal.returns-clause-background
returns-clause-background c = halves_background

pub returns-clause-named : goal.returns-clause-named
returns-clause-named c = halves_named

pub returns-clause-broken : goal.returns-clause-broken
returns-clause-broken c = halves_broken

pub returns-clause-refused : goal.returns-clause-refused
returns-clause-refused c = λ are. halves_broken are.along
