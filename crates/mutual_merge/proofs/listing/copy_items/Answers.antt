use Rattle.std.proofs.Common.{◌≡◌, ◌++◌, ◌∙◌, length, ap, sym, subst}
use Rattle.index_lists.specs.LinkedLists.{list_at}
use Rattle.mutual_merge.specs.Slots.{AreItems}
use Rattle.mutual_merge.proofs.ListedLinks.{listed_items}
use Rattle.mutual_merge.proofs.listing.copy_items.Goals as goal

pub returns-clause-items : goal.returns-clause-items
returns-clause-items c =
    let same : c.copy_into.new.items.items ≡ list_at c.args.lists.now c.args.slot =
    c.in_ok-copy_into.ensures.copied ∙ ap (λ xs. xs ++ list_at c.args.lists.now c.args.slot) c.clear.ensures.items in
    subst (AreItems (length c.args.links.now)) (sym same)
    (listed_items (length c.args.lists.now.lists) c.args.links.now c.args.lists.now c.args.slot c.requires.listed c.in_ok-copy_into.ensures.lawful)
