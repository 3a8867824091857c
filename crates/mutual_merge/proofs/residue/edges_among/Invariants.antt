use Rattle.std.proofs.Common.{◌≡◌, take}
use Rattle.mutual_merge.specs.Left.{edges_left}
use Rattle.mutual_merge.proofs.residue.edges_among.Given as goal

abbrev pub invariant-loop-link : goal.invariant-loop-link
invariant-loop-link l = l.edges.items ≡ edges_left l.regions (take l.link-index l.links) l.kept
