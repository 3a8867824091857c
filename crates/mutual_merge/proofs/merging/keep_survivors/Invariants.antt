use Rattle.mutual_merge.proofs.Survival.{SurvivorsSoFar}
use Rattle.mutual_merge.proofs.merging.keep_survivors.Given as goal

abbrev pub invariant-loop-k : goal.invariant-loop-k
invariant-loop-k l = SurvivorsSoFar l.regions l.mates l.k l.kept.items l.places.items
