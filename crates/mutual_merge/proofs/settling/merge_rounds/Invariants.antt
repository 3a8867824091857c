use Rattle.std.proofs.Common.{length}
use Rattle.mutual_merge.specs.Rounds.{HasMerged}
use Rattle.mutual_merge.proofs.settling.merge_rounds.Given as goal

abbrev pub invariant-loop-merges : goal.invariant-loop-merges
invariant-loop-merges l =
    HasMerged l.threshold l.frozen l.fn.start.regions.items l.fn.start.links.items l.merges.items
    l.graph.regions.items l.graph.links.items

abbrev pub decreases-loop-merges : goal.decreases-loop-merges
decreases-loop-merges l = length l.graph.regions.items
