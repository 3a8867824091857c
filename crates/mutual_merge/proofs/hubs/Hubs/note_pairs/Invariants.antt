use Rattle.mutual_merge.specs.Hubs.{HasSameEntries}
use Rattle.mutual_merge.proofs.hubs.Hubs.note_pairs.Given as goal

abbrev pub invariant-loop-item : goal.invariant-loop-item
invariant-loop-item l = HasSameEntries l.initial.self l.self
