use Rattle.std.proofs.Common.{◌≡◌, take}
use Rattle.mutual_merge.specs.Trimmed.{kept_links}
use Rattle.mutual_merge.proofs.trimming.links_among.Given as goal

abbrev pub invariant-loop-link : goal.invariant-loop-link
invariant-loop-link l = l.left.items ≡ kept_links l.kept l.places (take l.link-index l.links)
