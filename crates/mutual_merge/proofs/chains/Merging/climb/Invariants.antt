use Rattle.std.proofs.Common.{◌≡◌}
use Rattle.mutual_merge.specs.Indexed.{AreKnown}
use Rattle.mutual_merge.specs.Chains.{IsOnChain}
use Rattle.mutual_merge.proofs.chains.Merging.climb.Given as goal

abbrev pub invariant-loop : goal.invariant-loop
invariant-loop l = IsOnChain l.fn.slots l.slots l.last l.first × ((l.self.merges ≡ l.fn.self.merges)
    × (AreKnown l.self.one l.slots.links.items × AreKnown l.self.other l.slots.links.items))
