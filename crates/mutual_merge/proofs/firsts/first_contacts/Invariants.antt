use Rattle.std.proofs.Common.{take}
use Rattle.mutual_merge.specs.Firsts.{AreFirsts}
use Rattle.mutual_merge.proofs.firsts.first_contacts.Given as goal

abbrev pub invariant-loop-link : goal.invariant-loop-link
invariant-loop-link l = AreFirsts (take l.link-index l.links) l.count l.firsts.items
