use Rattle.std.proofs.Common.{◌≡◌}
use Rattle.mutual_merge.specs.Indexed.{AreKnown, IsIndexed}
use Rattle.mutual_merge.proofs.slots.Slots.mark_shared.Given as goal

abbrev pub invariant-loop-item : goal.invariant-loop-item
invariant-loop-item l = record {
  indexed : IsIndexed l.self;
  regions : l.self.regions ≡ l.fn.self.regions;
  closed : l.self.closed ≡ l.fn.self.closed;
  links : l.self.links ≡ l.fn.self.links;
  known : AreKnown l.room l.self.links.items;
}
