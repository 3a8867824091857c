use Rattle.face_pointers.specs.Pieces.{AreVoxels}
use Rattle.face_pointers.proofs.exits.Exits.search_leaves.Given as goal

abbrev pub invariant-loop-leaf : goal.invariant-loop-leaf
invariant-loop-leaf l = AreVoxels l.self l.ways.items
