use Rattle.mutual_merge.proofs.JoinedLinks.{JoinedSoFar}
use Rattle.mutual_merge.proofs.merging.join_links.Given as goal

abbrev pub invariant-loop-link : goal.invariant-loop-link
invariant-loop-link l = JoinedSoFar l.links l.link-index l.joined.items
