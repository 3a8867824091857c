use Rattle.mutual_merge.proofs.ListedLinks.{AreListedUpTo}
use Rattle.mutual_merge.proofs.listing.list_links.Given as goal

abbrev pub invariant-loop-index : goal.invariant-loop-index
invariant-loop-index l = AreListedUpTo l.slots l.links l.index l.lists
