use Rattle.std.proofs.Common.{List, sym, subst}
use Rattle.mutual_merge.specs.declared.links.Link.{Link}
use Rattle.mutual_merge.specs.Hubs.{AreReady}
use Rattle.mutual_merge.proofs.slots.Slots.gather_at.Goals as goal

pub returns-clause-indexed : goal.returns-clause-indexed
returns-clause-indexed c = record {
  listed = c.in_ok-gather.ensures.indexed.listed;
  ready = subst (λ (ls : List Link). AreReady ls c.raise.new.self) c.deref.ensures.value
      (c.in_ok-raise.ensures (subst (λ (ls : List Link). AreReady ls c.gather.new.self.hubs) (sym c.deref.ensures.value)
      c.in_ok-gather.ensures.indexed.ready));
}
