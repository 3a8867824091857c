use Rattle.std.proofs.Common.{take}
use Rattle.mutual_merge.specs.Moved.{AreMoved}
use Rattle.mutual_merge.proofs.merging.move_links.Given as goal

abbrev pub invariant-loop-link : goal.invariant-loop-link
invariant-loop-link l = AreMoved (take l.link-index l.links) l.places l.moved.items
