use Rattle.std.proofs.Common.{◌≡◌, length}
use Rattle.mutual_merge.proofs.groups.share_out.Given as goal

abbrev pub invariant-loop-place : goal.invariant-loop-place
invariant-loop-place l = length l.groups.items ≡ l.place
