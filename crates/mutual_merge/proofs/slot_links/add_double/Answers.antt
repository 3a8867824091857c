use Rattle.std.proofs.Common.{rules, sym, subst, set}
use Rattle.mutual_merge.specs.Slots.{AreGathered, IsKeptOf, Joins}
use Rattle.mutual_merge.proofs.SlotFirsts.{read_link}
use Rattle.mutual_merge.proofs.GatheredLinks.{AreDoubles, doubles_within, gathered_double, kept_double}
use Rattle.mutual_merge.proofs.slot_links.add_double.Goals as goal
use Rattle.mutual_merge.proofs.slot_links.add_double.Goals.{Else-not-joins}

doubles : (c : Else-not-joins) → AreDoubles c.args.links.now c.args.into c.args.index c.index-links-into.result c.index-links-index.result
doubles c =
    let links = c.args.links.now in
    let joins : Joins c.index-links-index.result.a c.index-links-index.result.b c.index-links-into.result = search rules in
    record {
      apart = c.if-into-index.false;
      into_inside = c.if-into-links.false;
      index_inside = c.requires.inside;
      other_is = read_link links c.args.into c.index-links-into.result c.if-into-links.false c.index-links-into.is;
      link_is = read_link links c.args.index c.index-links-index.result c.requires.inside c.index-links-index.is;
      live = c.if-link.false;
      joins = joins;
    }

pub add-contact-requires : goal.add-contact-requires
add-contact-requires c =
    doubles_within c.args.links.now c.args.into c.args.index c.index-links-into.result c.index-links-index.result
    (doubles (goal.at.add-contact-requires c).Else-not-joins) c.requires.within

pub returns-clause-gathered : goal.returns-clause-gathered
returns-clause-gathered c =
    let links = c.args.links.now in
    let other = c.index-links-into.result in
    let link = c.index-links-index.result in
    subst (λ sum. AreGathered links (set (set links c.args.into (record other { contact = sum })) c.args.index (record link { b = link.a })))
    (sym c.add-contact.ensures)
    (gathered_double links c.args.into c.args.index other link (doubles (goal.at.returns-clause-gathered c).Else-not-joins))

pub returns-clause-kept : goal.returns-clause-kept
returns-clause-kept c =
    let links = c.args.links.now in
    let other = c.index-links-into.result in
    let link = c.index-links-index.result in
    subst (λ sum. IsKeptOf c.args.index c.args.into links (set (set links c.args.into (record other { contact = sum })) c.args.index (record link { b = link.a })))
    (sym c.add-contact.ensures)
    (kept_double links c.args.into c.args.index other link (doubles (goal.at.returns-clause-kept c).Else-not-joins))
