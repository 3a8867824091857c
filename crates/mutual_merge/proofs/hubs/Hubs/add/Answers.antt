use Rattle.std.proofs.Common.{ℕ, Vec, Global, ◌∷◌, ◌∙◌, sym, ap, subst}
use Rattle.std.specs.Prelude.{IsPermutation}
use Rattle.mutual_merge.specs.declared.hubs.Entry.{Entry}
use Rattle.mutual_merge.specs.HubEntries.{HubEntries}
use Rattle.mutual_merge.specs.Hubs.{nth_hub}
use Rattle.mutual_merge.proofs.ReadyHubs.{gained_entry, number_inside, read_hub}
use Rattle.mutual_merge.proofs.hubs.Hubs.add.Goals as goal

pub returns-in_ok-note_pair : goal.returns-in_ok-note_pair
returns-in_ok-note_pair c =
    let number = c.in-Some.number in
    let hub : HubEntries = c.index_mut.result.now in
    let there = number_inside c.args.self.now number c.args.slot c.in-Some.ensures.0 c.in-Some.ensures.1 in
    let read = read_hub c.args.self.now number hub there c.index_mut.ensures.value in
    gained_entry c.args.slot c.args.index number c.args.link.now c.push.new.self c.args.self.now c.note_pair.new.self
    (record {
      numbers_stay = ap (λ (ns : Vec ℕ Global). ns.items) c.in_ok-note_pair.ensures.numbers_stay;
      hubs_are = ap (λ (hs : Vec HubEntries Global). hs.items) c.in_ok-note_pair.ensures.hubs_stay;
      there = there;
      same_slot = c.in_ok-push.ensures.slot ∙ ap (λ (h : HubEntries). h.slot) (sym read);
    })
    c.in-Some.ensures.0
    (subst (λ (e : Entry). IsPermutation (e ∷ (nth_hub c.args.self.now number).entries) c.push.new.self.entries) c.entry_of.ensures.entry
    (subst (λ (h : HubEntries). IsPermutation (c.entry_of.result ∷ h.entries) c.push.new.self.entries) (sym read) c.in_ok-push.ensures.pushed))
    c.entry_of.ensures.within
