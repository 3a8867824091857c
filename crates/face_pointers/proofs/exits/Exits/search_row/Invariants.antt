use Rattle.face_pointers.specs.Pieces.{AreVoxels}
use Rattle.face_pointers.proofs.exits.Exits.search_row.Given as goal

abbrev pub invariant-loop-x : goal.invariant-loop-x
invariant-loop-x l = AreVoxels l.self l.ways.items
