use Rattle.std.proofs.Common.{length}
use Rattle.mutual_merge.specs.Slots.{AreListed}
use Rattle.mutual_merge.proofs.ListedLinks.{AreAhead}
use Rattle.mutual_merge.proofs.listing.unlink_gone.Given as goal

abbrev pub invariant-loop-item : goal.invariant-loop-item
invariant-loop-item l = record {
  listed : AreListed (length l.initial.lists.lists) l.links l.lists;
  ahead : AreAhead l.items l.item-index l.lists l.slot;
}
