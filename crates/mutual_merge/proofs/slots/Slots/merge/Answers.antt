use Rattle.std.proofs.Common.{ℕ, List, sym, ap, ◌∙◌, subst}
use Rattle.mutual_merge.specs.declared.links.Link.{Link}
use Rattle.mutual_merge.specs.Slots.{Covers}
use Rattle.mutual_merge.proofs.slots.Slots.merge.Goals as goal

pub merge_from-requires-then-len-clause-covers : goal.merge_from-requires-then-len-clause-covers
merge_from-requires-then-len-clause-covers c =
    let from = c.lesser_end-from.result in
    let same = ap (λ v. v.items) c.in_ok-gather-2.ensures.links ∙ ap (λ v. v.items) c.in_ok-gather.ensures.links in
    subst (λ (items : List ℕ). Covers items c.gather-2.new.self.links.items from) (sym c.deref-then-len-3.ensures.value)
    (subst (λ (links : List Link). Covers c.gather.new.room.items.items links from) (sym same) c.in_ok-gather.ensures.covers)
