use Rattle.mutual_merge.specs.Parts.{AreListsJoined}
use Rattle.mutual_merge.proofs.free_settling.join_lists.Given as goal

-- the merges of the lists so far are there
abbrev pub invariant-loop-list : goal.invariant-loop-list
invariant-loop-list l = AreListsJoined l.yielded l.merges.items
