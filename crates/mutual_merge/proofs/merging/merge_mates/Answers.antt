use Rattle.std.proofs.Common.{length, sym, ap, ◌∙◌, subst}
use Rattle.mutual_merge.specs.Moved.{AreRelinked}
use Rattle.mutual_merge.specs.Slots.{AreSlotLinks}
use Rattle.mutual_merge.proofs.MergedMates.{AreMerged-from}
use Rattle.mutual_merge.proofs.Relinked.{AreSlotLinks-from_links}
use Rattle.mutual_merge.proofs.merging.merge_mates.Goals as goal

pub relink-requires : goal.relink-requires
relink-requires c =
    let same = sym c.in_ok-survivors.ensures.one_each ∙ ap length (sym c.deref.ensures.value) in
    subst (λ n. AreSlotLinks n c.args.links.now) same
    (AreSlotLinks-from_links (length c.args.regions.now) c.args.links.now c.requires.linked.links_are)

pub returns : goal.returns
returns c =
    let survivors = c.in_ok-survivors.survivors in
    AreMerged-from c.args.regions.now c.args.links.now c.args.mates.now survivors.kept.items survivors.places.items
    c.in_ok-links.links.items c.requires.linked c.in_ok-survivors.ensures
    (subst (λ places. AreRelinked c.args.links.now places c.in_ok-links.links.items) c.deref.ensures.value c.in_ok-links.ensures)
