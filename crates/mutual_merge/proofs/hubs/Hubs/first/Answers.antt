use Rattle.std.proofs.Common.{◌∙◌, refl, sym, ap}
use Rattle.mutual_merge.specs.HubEntries.{HubEntries}
use Rattle.mutual_merge.proofs.ReadyHubs.{number_inside, read_hub, written_ready}
use Rattle.mutual_merge.proofs.hubs.Hubs.first.Goals as goal

pub returns-clause-ready : goal.returns-clause-ready
returns-clause-ready c =
    let number = c.in_ok-number.number in
    let hub : HubEntries = c.index_mut.result.now in
    let there = number_inside c.args.self.now number c.args.slot c.in_ok-number.ensures.0 c.requires.hub in
    let read = read_hub c.args.self.now number hub there c.index_mut.ensures.value in
    written_ready c.args.links.now number c.first.new.self c.args.self.now _
    (record {
      numbers_stay = refl;
      hubs_are = refl;
      there = there;
      same_slot = c.first.ensures.slot ∙ ap (λ (h : HubEntries). h.slot) (sym read);
    })
    c.first.ensures.tells c.requires.ready
