use Rattle.std.proofs.Common.{[], rules, sym, subst}
use Rattle.mutual_merge.specs.Firsts.{AreFirsts}
use Rattle.mutual_merge.proofs.FirstContacts.{AreFirsts-none, AreFirsts-step}
use Rattle.mutual_merge.proofs.firsts.first_contacts.Goals as goal

pub loop-link-init : goal.loop-link-init
loop-link-init c =
    subst (AreFirsts [] c.args.count) (sym (c.in_ok-firsts.ensures.items_if_clones_equal (λ y clone. search rules)))
    (AreFirsts-none c.args.count)

pub loop-link-preserved : goal.loop-link-preserved
loop-link-preserved c =
    AreFirsts-step c.args.links.now c.loop-link.link-index c.args.count c.link-item.result c.loop-link.firsts.items
    c.index.result.now c.index-in-loop-link.result.now c.earlier.result c.earlier-in-loop-link.result
    c.loop-link.invariant c.requires c.loop-link-test.true c.link-item.is c.index.ensures c.earlier.ensures
    c.index-in-loop-link.ensures c.earlier-in-loop-link.ensures
