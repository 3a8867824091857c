-- Names in the cell of a node, and those that wait there for a decision of a node above.
use Rattle.std.specs.Prelude.{ℕ, ◌+◌, ◌==◌, nat_lt, Bool, ◌&&◌, IsTrue, List}
use Rattle.std.specs.List.{list_any, range_with_len}
use Rattle.agglo_model.specs.Axes.{voxel_count, coordinate, lower_end, higher_end}
use Rattle.agglo_model.specs.Basins.{label_of}
use Rattle.agglo_model.specs.Cutting.{Chunking, level_of, node_at, cell_low, cell_high, is_low_artificial, is_high_artificial, face_bits, IsAtFace}

-- voxel v lies in the cell of node m
abbrev pub is_held : Chunking → ℕ → ℕ → Bool
is_held c m v = nat_lt v (voxel_count c.axes) && node_at c (level_of c m) v == m

-- both ends of edge e lie in the cell of node m
abbrev pub is_inside : Chunking → ℕ → ℕ → Bool
is_inside c m e = is_held c m (lower_end c.axes e) && is_held c m (higher_end e)

-- voxel v lies in the cell of node m and has the name x
abbrev pub is_part : Chunking → ℕ → List ℕ → ℕ → ℕ → Bool
is_part c m labels x v = is_held c m v && label_of labels v == x

-- some voxel passes the test
abbrev pub some_voxel : Chunking → (ℕ → Bool) → Bool
some_voxel c test = list_any test (range_with_len 0 (voxel_count c.axes))

-- the name x occurs in the cell of node m
abbrev pub occurs_in : Chunking → ℕ → List ℕ → ℕ → Bool
occurs_in c m labels x = some_voxel c (is_part c m labels x)

-- the name x has a voxel of the cell at its low or its high face on an axis, and that face is artificial
abbrev pub touches_low : Chunking → ℕ → List ℕ → ℕ → ℕ → Bool
touches_low c m labels x axis = is_low_artificial c m axis
    && some_voxel c (λ v. is_part c m labels x v && coordinate c.axes v axis == cell_low c m axis)

abbrev pub touches_high : Chunking → ℕ → List ℕ → ℕ → ℕ → Bool
touches_high c m labels x axis = is_high_artificial c m axis
    && some_voxel c (λ v. is_part c m labels x v && coordinate c.axes v axis + 1 == cell_high c m axis)

-- the artificial faces of node m's cell that the name x touches, as the number of a set of faces
abbrev pub touched_faces : Chunking → ℕ → List ℕ → ℕ → ℕ
touched_faces c m labels x = face_bits (touches_low c m labels x) (touches_high c m labels x)

-- the name x is frozen in node m: it has a voxel of the cell at an artificial face
pub record IsFrozen (c : Chunking) (m : ℕ) (labels : List ℕ) (x : ℕ) : Type 0 where
  pub voxel : ℕ
  pub part : IsTrue (is_part c m labels x voxel)
  pub at_face : IsAtFace c m voxel
