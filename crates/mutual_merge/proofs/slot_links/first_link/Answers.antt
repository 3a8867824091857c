use Rattle.std.proofs.Common.{ℕ, List, refl, sym, subst, take, get_or}
use Rattle.std.proofs.lemmas.List.{take_all, take_more}
use Rattle.mutual_merge.specs.Slots.{IsFirstOf}
use Rattle.mutual_merge.proofs.slot_links.first_link.Goals as goal

pub loop-item-preserved : goal.loop-item-preserved
loop-item-preserved c =
    let links = c.args.links.now in
    let items = c.args.items.now in
    let i = c.loop-item.item-index in
    subst (λ (seen : List ℕ). IsFirstOf links seen c.args.slot c.earlier-first.result) (sym (take_more items i 0 c.loop-item-test.true))
    (c.earlier-first.ensures (take i items) (get_or items i 0) refl c.loop-item.invariant)

pub returns : goal.returns
returns c =
    subst (λ (seen : List ℕ). IsFirstOf c.args.links.now seen c.args.slot c.loop-item.first)
    (take_all c.loop-item.item-index c.args.items.now c.loop-item-test.false) c.loop-item.invariant
