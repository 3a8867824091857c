use Rattle.mutual_merge.proofs.HubFirsts.{tell_permuted}
use Rattle.mutual_merge.proofs.hubs.Hub.open.Goals as goal

pub returns-clause-tells : goal.returns-clause-tells
returns-clause-tells c =
    tell_permuted c.in_ok-entries.entries.items c.from.result.data.items c.args.links.now c.args.slot c.from.ensures.1 c.in_ok-entries.ensures
