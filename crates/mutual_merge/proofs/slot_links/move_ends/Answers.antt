use Rattle.std.proofs.Common.{ℕ, ◌<◌, ◌/◌, ◌∙◌, List, [], ◌∷◌, ◌++◌, length, refl, sym, ap, subst, get_or, set, take}
use Rattle.std.proofs.lemmas.List.{take_all, take_more}
use Rattle.mutual_merge.specs.declared.links.Link.{Link}
use Rattle.mutual_merge.specs.Slots.{HaveMovedEndsOf, moved_link}
use Rattle.mutual_merge.proofs.SlotFirsts.{read_link}
use Rattle.mutual_merge.proofs.MovedEnds.{moved_none, moved_more}
use Rattle.mutual_merge.proofs.slot_links.move_ends.Goals as goal

pub loop-item-init : goal.loop-item-init
loop-item-init c = moved_none c.args.from c.args.to c.args.links.now

pub loop-item-preserved : goal.loop-item-preserved
loop-item-preserved c =
    let items = c.args.items.now in
    let i = c.loop-item.item-index in
    let item = get_or items i 0 in
    let links : List Link = c.loop-item.links in
    let below : item / 2 < length c.args.links.now = c.requires i 0 c.loop-item-test.true in
    let there : item / 2 < length links = subst (λ n. item / 2 < n) (sym c.loop-item.invariant.one_each) below in
    let read = read_link links (item / 2) c.index-links-index.result there c.index-links-index.is in
    subst (λ (seen : List ℕ). HaveMovedEndsOf seen c.args.from c.args.to c.args.links.now (set links (item / 2) c.moved.result)) (sym (take_more items i 0 c.loop-item-test.true))
    (subst (λ (l : Link). HaveMovedEndsOf (take i items ++ item ∷ []) c.args.from c.args.to c.args.links.now (set links (item / 2) l))
    (ap (moved_link c.args.from c.args.to) read ∙ sym c.moved.ensures)
    (moved_more (take i items) item (item / 2) c.args.from c.args.to c.args.links.now links c.loop-item.invariant refl below))

pub returns : goal.returns
returns c =
    subst (λ (seen : List ℕ). HaveMovedEndsOf seen c.args.from c.args.to c.args.links.now c.loop-item.links)
    (take_all c.loop-item.item-index c.args.items.now c.loop-item-test.false) c.loop-item.invariant
