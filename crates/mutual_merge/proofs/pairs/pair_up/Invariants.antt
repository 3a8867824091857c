use Rattle.mutual_merge.proofs.Pairing.{PairsSoFar}
use Rattle.mutual_merge.proofs.pairs.pair_up.Given as goal

abbrev pub invariant-loop-link : goal.invariant-loop-link
invariant-loop-link l =
    PairsSoFar l.threshold l.frozen l.graph.regions.items l.graph.links.items l.link-index l.mates.items l.pairs.items
