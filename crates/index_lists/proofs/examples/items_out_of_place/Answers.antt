use Rattle.std.proofs.Common.{◌≡◌, ℕ, refl, arith}
use Rattle.index_lists.proofs.examples.items_out_of_place.Goals as goal

pub returns-clause-twice : goal.returns-clause-twice
returns-clause-twice c = λ lawful. lawful.once 0 0 2 0 (omega arith) (omega arith) refl

pub returns-clause-shared : goal.returns-clause-shared
returns-clause-shared c = λ lawful. let same : ◌≡◌ {A = ℕ} 0 1 = lawful.apart 0 1 1 (1, omega arith, refl) (0, omega arith, refl) in omega arith

pub returns-clause-beyond : goal.returns-clause-beyond
returns-clause-beyond c = λ lawful. let below = lawful.within 0 3 (0, omega arith, refl) in omega arith
