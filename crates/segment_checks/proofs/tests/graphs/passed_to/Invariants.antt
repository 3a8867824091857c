use Rattle.segment_checks.proofs.KidPushes.{AreFirstKids}
use Rattle.segment_checks.proofs.tests.graphs.passed_to.Given as goal

abbrev pub invariant-loop-i : goal.invariant-loop-i
invariant-loop-i l = AreFirstKids l.site.grid l.site.cutting l.m l.i l.kids
