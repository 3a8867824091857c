use Rattle.std.proofs.Common.{take}
use Rattle.std.specs.Prelude.{All}
use Rattle.mutual_merge.specs.Parts.{AreTogether}
use Rattle.mutual_merge.proofs.groups.are_together.Given as goal

abbrev pub invariant-loop-link : goal.invariant-loop-link
invariant-loop-link l = All (AreTogether l.threshold l.groups) (take l.link-index l.links)
