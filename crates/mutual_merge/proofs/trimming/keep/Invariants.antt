use Rattle.mutual_merge.proofs.KeptPlaces.{AreKeptTo}
use Rattle.mutual_merge.proofs.trimming.keep.Given as goal

abbrev pub invariant-loop-place : goal.invariant-loop-place
invariant-loop-place l = AreKeptTo l.regions l.kept l.place l.left.items l.places.items
