use Rattle.std.proofs.Common.{refl}
use Rattle.mutual_merge.proofs.ReadyHubs.{closed_ready, hub_inside, number_inside}
use Rattle.mutual_merge.proofs.hubs.Hubs.close.Goals as goal

pub returns-in-Some-clause-ready : goal.returns-in-Some-clause-ready
returns-in-Some-clause-ready c links =
    closed_ready links c.args.slot c.in-Some.number _ c.args.self.now _
    (record {
      numbers_are = refl;
      hubs_are = refl;
      slot_there = hub_inside c.args.self.now c.args.slot c.in-Some.ensures.1;
      there = number_inside c.args.self.now c.in-Some.number c.args.slot c.in-Some.ensures.0 c.in-Some.ensures.1;
      own = refl;
    })
