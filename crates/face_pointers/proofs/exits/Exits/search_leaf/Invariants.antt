use Rattle.face_pointers.specs.Pieces.{AreVoxels}
use Rattle.face_pointers.proofs.exits.Exits.search_leaf.Given as goal

abbrev pub invariant-loop-y : goal.invariant-loop-y
invariant-loop-y l = AreVoxels l.self l.ways.items

abbrev pub invariant-loop-z : goal.invariant-loop-z
invariant-loop-z l = AreVoxels l.self l.ways.items
