use Rattle.std.proofs.Common.{not, ap, ◌∙◌, sym, eq-eqb, ne_eqb}
use Rattle.std.proofs.lemmas.Bool.{false≢true}
use Rattle.index_lists.proofs.Reading.{linked_by_node}
use Rattle.index_lists.proofs.lists.Lists.linked.Goals as goal

pub returns-clause-linked : goal.returns-clause-linked
returns-clause-linked c =
    let next = c.index.result.now.next in
    let both =
    linked_by_node c.self.inside.nodes.items c.self.inside.ends.items c.args.self.now c.args.item c.index.result.now c.self.view_is c.self.invariant
    c.requires c.index.ensures in (
      λ yes. both.0 (λ same. false≢true (sym (ap not (eq-eqb next c.args.item same)) ∙ yes)),
      λ linked. ap not (ne_eqb next c.args.item (both.1 linked)),
    )
