use Rattle.std.proofs.Common.{◌≡◌, ◌<◌, ◌/◌, ◌+◌, ◌∙◌, ℕ, List, length, get_or, arith, sym, subst}
use Rattle.index_lists.specs.LinkedLists.{LinkedLists, list_at}
use Rattle.index_lists.proofs.ItemLists.{Once}
use Rattle.index_lists.proofs.LawfulLists.{list_is_there}
use Rattle.mutual_merge.specs.declared.links.Link.{Link}
use Rattle.mutual_merge.specs.Slots.{AreItems, AreListed}
use Rattle.mutual_merge.proofs.SlotFirsts.{read_link}
use Rattle.mutual_merge.proofs.ListedLinks.{AreAhead, ahead_all, ahead_less, ahead_without, listed_items, listed_without}
use Rattle.mutual_merge.proofs.listing.unlink_gone.Goals as goal
use Rattle.mutual_merge.proofs.listing.unlink_gone.Goals.{then-link, else-link}

are_items : (count : ℕ) (xs ys : List ℕ) → ys ≡ xs → AreItems count xs → AreItems count ys
are_items count xs ys same are = subst (AreItems count) (sym same) are

pub bounds-links-item : goal.bounds-links-item
bounds-links-item c =
    are_items (length c.args.links.now) (list_at c.args.lists.now c.args.slot) c.args.items.now c.requires.items
    (listed_items (length c.args.lists.now.lists) c.args.links.now c.args.lists.now c.args.slot c.requires.listed c.requires.lawful)
    c.loop-item.item-index 0 c.loop-item-test.true

pub unlink-requires : goal.unlink-requires
unlink-requires c = c.loop-item.invariant.ahead c.loop-item.item-index (omega arith) c.loop-item-test.true

pub loop-item-init : goal.loop-item-init
loop-item-init c = record {
  listed = c.requires.listed;
  ahead = ahead_all c.args.items.now c.args.lists.now c.args.slot c.requires.items;
}

pub loop-item-preserved : goal.loop-item-preserved
loop-item-preserved c =
    let n = length c.args.lists.now.lists in
    let links : List Link = c.args.links.now in
    let items : List ℕ = c.args.items.now in
    let i = c.loop-item.item-index in
    let item = get_or items i 0 in
    let lists : LinkedLists = c.loop-item.lists in
    let slot = c.args.slot in
    let below : item / 2 < length links =
    are_items (length links) (list_at c.args.lists.now slot) items c.requires.items
    (listed_items n links c.args.lists.now slot c.requires.listed c.requires.lawful) i 0 c.loop-item-test.true in
    let read = read_link links (item / 2) c.index-links-item.result below c.index-links-item.is in
    let there = list_is_there lists slot item (c.loop-item.invariant.ahead i (omega arith) c.loop-item-test.true) in
    elim c.if-link.branch [
      | then-link w ↦
          let out = w.lists-is ∙ w.unlink.ensures in
          record {
            listed =
                subst (AreListed n links) (sym out)
                (listed_without n links lists slot item c.loop-item.invariant.listed there
                (λ live. live (subst (λ (l : Link). l.a ≡ l.b) (sym read) w.if-link.true)));
            ahead =
                subst (λ ls. AreAhead items (i + 1) ls slot) (sym out)
                (ahead_without items lists slot i (subst Once (sym c.requires.items) (c.requires.lawful.once slot)) there
                c.loop-item.invariant.ahead);
          }
      | else-link w ↦ record {
        listed = subst (AreListed n links) (sym w.lists-is) c.loop-item.invariant.listed;
        ahead =
            subst (λ ls. AreAhead items (i + 1) ls slot) (sym w.lists-is)
            (ahead_less items i lists slot c.loop-item.invariant.ahead);
      }
    ]
