use Rattle.std.proofs.Common.{rules, ◌≡◌, ◌↔◌, ◌+◌, ◌*◌, ◌/◌, ◌<◌, subst}
use Rattle.agglo_model.specs.PairOrder.{Before, IsWithinLimits}
use Rattle.mean_fraction.specs.OrderNumbers.{order_number}
use Rattle.mean_fraction.proofs.OrderNumbers.{number_order}
use Rattle.mean_fraction.proofs.contacts.order_number.Goals as goal

pub returns-clause-before : goal.returns-clause-before
returns-clause-before c other within =
    let limits : IsWithinLimits c.args.contact.now = search rules in
    let same : order_number c.args.contact.now ≡ c.from.result * 1152921504606846976 / c.from-2.result * c.from-3.result + c.from-4.result = search rules in
    subst (λ n. Before c.args.contact.now other ↔ (order_number other < n)) same (number_order c.args.contact.now other limits within)
