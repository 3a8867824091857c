use Rattle.std.proofs.Common.{drop}
use Rattle.mutual_merge.specs.Hubs.{AreReadyBut, links_of}
use Rattle.mutual_merge.specs.Slots.{AreGathered}
use Rattle.mutual_merge.proofs.slot_links.add_up.Given as goal

abbrev pub invariant-loop-item : goal.invariant-loop-item
invariant-loop-item l = record {
  gathered : AreGathered l.initial.links l.links;
  ready : AreReadyBut l.initial.links l.initial.hubs (links_of l.items) → AreReadyBut l.links l.hubs (links_of (drop l.item-index l.items));
}
