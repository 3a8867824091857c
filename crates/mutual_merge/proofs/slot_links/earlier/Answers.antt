use Rattle.std.proofs.Common.{rules, ◌<◌, length, sym, subst}
use Rattle.std.specs.Prelude.{IfSome}
use Rattle.agglo_model.specs.PairOrder.{Before}
use Rattle.mutual_merge.specs.declared.links.Link.{Link}
use Rattle.mutual_merge.specs.Slots.{IsLiveAt, nth_link}
use Rattle.mutual_merge.proofs.SlotFirsts.{first_is_new, read_link}
use Rattle.mutual_merge.proofs.slot_links.earlier.Goals as goal

pub returns-in_default : goal.returns-in_default
returns-in_default c seen item half is =
    let links = c.args.links.now in
    let link_is = read_link links c.args.index c.index-links-index.result c.requires.inside c.index-links-index.is in
    let other_there : c.in-Some.other < length links = subst (λ o. IfSome o (λ i. i < length links)) c.in-Some.is c.requires.first_inside in
    let other_is = read_link links c.in-Some.other c.index-links-other.result other_there c.index-links-other.is in
    let live : IsLiveAt c.args.slot c.index-links-index.result = search rules in
    let before : Before c.index-links-index.result.contact c.index-links-other.result.contact = search rules in
    first_is_new links seen item c.args.index c.args.slot c.args.first c.requires.touching c.requires.inside half
    (subst (λ (l : Link). IsLiveAt c.args.slot l) (sym link_is) live) is
    (subst (λ o. IfSome o (λ i. Before (nth_link links c.args.index).contact (nth_link links i).contact)) (sym c.in-Some.is)
    (subst (λ (l : Link). Before l.contact (nth_link links c.in-Some.other).contact) (sym link_is)
    (subst (λ (l : Link). Before c.index-links-index.result.contact l.contact) (sym other_is) before)))
