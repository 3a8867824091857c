use Rattle.std.proofs.Common.{length}
use Rattle.parent_join.proofs.KidLists.{AreGatheredBut}
use Rattle.parent_join.proofs.kids.take_all.Given as goal

abbrev pub invariant-loop-kid : goal.invariant-loop-kid
invariant-loop-kid l = AreGatheredBut l.site.cutting l.m l.i l.fn.kids l.kids l.regions.items l.edges.items

abbrev pub decreases-loop-kid : goal.decreases-loop-kid
decreases-loop-kid l = length l.kids
