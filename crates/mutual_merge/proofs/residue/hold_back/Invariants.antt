use Rattle.mutual_merge.proofs.KeptRegions.{HeldSoFar}
use Rattle.mutual_merge.proofs.residue.hold_back.Given as goal

abbrev pub invariant-loop-region : goal.invariant-loop-region
invariant-loop-region l = HeldSoFar l.frozen l.regions l.region-index l.held.items
