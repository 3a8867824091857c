-- Voxels of a cell, the names that occur there, and the names that are frozen.
use Rattle.std.proofs.Common.{◌≡◌, ◌≢◌, ◌⊎◌, ◌↔◌, inl, inr, ℕ, ◌+◌, ◌<◌, ◌==◌, Bool, true, false, cond, ◌&&◌, List, refl, ap, ◌∙◌, zero-add, arith}
use Rattle.std.specs.List.{range_with_len}
use Rattle.std.proofs.lemmas.Bool.{and_parts, and_from, ltb-true, lt-ltb, eqb-true, eq-eqb}
use Rattle.std.proofs.lemmas.List.FromFn.{length-range_with_len, get_or-range_with_len}
use Rattle.std.proofs.lemmas.List.Folds.{Any-from_list_any, list_any_at}
use Rattle.agglo_model.specs.Axes.{voxel_count, coordinate}
use Rattle.agglo_model.specs.Basins.{label_of}
use Rattle.agglo_model.specs.Cutting.{Chunking, level_of, node_at, cell_low, cell_high, is_low_artificial, is_high_artificial, IsAtFaceOn, IsAtFace}
use Rattle.agglo_model.specs.Freezing.{is_held, is_part, some_voxel, occurs_in, touches_low, touches_high, touched_faces, IsFrozen}

-- ---- voxels of the cell

-- a voxel of the cell is a voxel, and the node is that of its level at the voxel
pub held_voxel : (c : Chunking) (m v : ℕ) → is_held c m v ≡ true → v < voxel_count c.axes
held_voxel c m v held = ltb-true v (voxel_count c.axes) (and_parts _ _ held).0

pub held_node : (c : Chunking) (m v : ℕ) → is_held c m v ≡ true → node_at c (level_of c m) v ≡ m
held_node c m v held = eqb-true (node_at c (level_of c m) v) m (and_parts _ _ held).1

pub held_from : (c : Chunking) (m v : ℕ) → v < voxel_count c.axes → node_at c (level_of c m) v ≡ m → is_held c m v ≡ true
held_from c m v below node = and_from _ _ (lt-ltb v (voxel_count c.axes) below) (eq-eqb (node_at c (level_of c m) v) m node)

-- a voxel of the cell with a name
pub part_held : (c : Chunking) (m : ℕ) (labels : List ℕ) (x v : ℕ) → is_part c m labels x v ≡ true → is_held c m v ≡ true
part_held c m labels x v part = (and_parts (is_held c m v) (label_of labels v == x) part).0

pub part_name : (c : Chunking) (m : ℕ) (labels : List ℕ) (x v : ℕ) → is_part c m labels x v ≡ true → label_of labels v ≡ x
part_name c m labels x v part =
    eqb-true (label_of labels v) x (and_parts (is_held c m v) (label_of labels v == x) part).1

pub part_from : (c : Chunking) (m : ℕ) (labels : List ℕ) (x v : ℕ) → is_held c m v ≡ true → label_of labels v ≡ x
    → is_part c m labels x v ≡ true
part_from c m labels x v held name =
    and_from (is_held c m v) (label_of labels v == x) held (eq-eqb (label_of labels v) x name)

-- ---- some voxel

pub some_voxel_from : (c : Chunking) (test : ℕ → Bool) (v : ℕ) → v < voxel_count c.axes → test v ≡ true
    → some_voxel c test ≡ true
some_voxel_from c test v below pass =
    let len = length-range_with_len 0 (voxel_count c.axes) in
    list_any_at test (range_with_len 0 (voxel_count c.axes)) v 0 (omega arith)
    (ap test (get_or-range_with_len 0 (voxel_count c.axes) v 0 below ∙ zero-add v) ∙ pass)

pub some_voxel_is : (c : Chunking) (test : ℕ → Bool) → some_voxel c test ≡ true → (v : ℕ) × (test v ≡ true)
some_voxel_is c test pass =
    let found = Any-from_list_any test (range_with_len 0 (voxel_count c.axes)) pass in
    (found.1, found.4)

-- a name occurs in a cell exactly where some voxel of the cell has it
pub occurs_at : (c : Chunking) (m : ℕ) (labels : List ℕ) (x : ℕ)
    → (occurs_in c m labels x ≡ true) ↔ ((v : ℕ) × (is_part c m labels x v ≡ true))
occurs_at c m labels x = (
  some_voxel_is c (is_part c m labels x),
  λ (v, part). some_voxel_from c (is_part c m labels x) v
      (held_voxel c m v (part_held c m labels x v part)) part,
)

-- ---- frozen names

-- one of six bits is set where their sum isn't 0
some_bit : (a b c d e f : Bool)
    → cond a 1 0 + cond b 2 0 + cond c 4 0 + cond d 8 0 + cond e 16 0 + cond f 32 0 ≢ 0
    → ((a ≡ true) ⊎ (b ≡ true)) ⊎ (((c ≡ true) ⊎ (d ≡ true)) ⊎ ((e ≡ true) ⊎ (f ≡ true)))
some_bit true b c d e f some = inl (inl refl)
some_bit false true c d e f some = inl (inr refl)
some_bit false false true d e f some = inr (inl (inl refl))
some_bit false false false true e f some = inr (inl (inr refl))
some_bit false false false false true f some = inr (inr (inl refl))
some_bit false false false false false true some = inr (inr (inr refl))
some_bit false false false false false false some = absurd (some refl)

bit_set : (a b c d e f : Bool)
    → ((a ≡ true) ⊎ (b ≡ true)) ⊎ (((c ≡ true) ⊎ (d ≡ true)) ⊎ ((e ≡ true) ⊎ (f ≡ true)))
    → cond a 1 0 + cond b 2 0 + cond c 4 0 + cond d 8 0 + cond e 16 0 + cond f 32 0 ≢ 0
bit_set a b c d e f some = grind arith

-- the name touches a face on an axis
abbrev TouchesOn : Chunking → ℕ → List ℕ → ℕ → ℕ → Type 0
TouchesOn c m labels x axis = (touches_low c m labels x axis ≡ true) ⊎ (touches_high c m labels x axis ≡ true)

-- a voxel of the name at a face on an axis
abbrev PartAtFaceOn : Chunking → ℕ → List ℕ → ℕ → ℕ → Type 0
PartAtFaceOn c m labels x axis = (v : ℕ) × (is_part c m labels x v ≡ true) × IsAtFaceOn c m axis v

part_at : (c : Chunking) (m : ℕ) (labels : List ℕ) (x axis : ℕ) → TouchesOn c m labels x axis
    → PartAtFaceOn c m labels x axis
part_at c m labels x axis (inl low) =
    let both = and_parts (is_low_artificial c m axis) _ low in
    let found = some_voxel_is c (λ v. is_part c m labels x v && coordinate c.axes v axis == cell_low c m axis) both.1 in
    let split = and_parts (is_part c m labels x found.0) _ found.1 in
    (found.0, split.0, inl (both.0, eqb-true _ _ split.1))
part_at c m labels x axis (inr high) =
    let both = and_parts (is_high_artificial c m axis) _ high in
    let found = some_voxel_is c (λ v. is_part c m labels x v && coordinate c.axes v axis + 1 == cell_high c m axis) both.1 in
    let split = and_parts (is_part c m labels x found.0) _ found.1 in
    (found.0, split.0, inr (both.0, eqb-true _ _ split.1))

touches_at : (c : Chunking) (m : ℕ) (labels : List ℕ) (x axis v : ℕ) → is_part c m labels x v ≡ true
    → IsAtFaceOn c m axis v → TouchesOn c m labels x axis
touches_at c m labels x axis v part (inl (artificial, at)) = inl (and_from (is_low_artificial c m axis) _ artificial
    (some_voxel_from c (λ w. is_part c m labels x w && coordinate c.axes w axis == cell_low c m axis) v
    (held_voxel c m v (part_held c m labels x v part))
    (and_from (is_part c m labels x v) _ part (eq-eqb _ _ at))))
touches_at c m labels x axis v part (inr (artificial, at)) = inr (and_from (is_high_artificial c m axis) _ artificial
    (some_voxel_from c (λ w. is_part c m labels x w && coordinate c.axes w axis + 1 == cell_high c m axis) v
    (held_voxel c m v (part_held c m labels x v part))
    (and_from (is_part c m labels x v) _ part (eq-eqb _ _ at))))

touches_some : (c : Chunking) (m : ℕ) (labels : List ℕ) (x v : ℕ) → is_part c m labels x v ≡ true → IsAtFace c m v
    → TouchesOn c m labels x 0 ⊎ (TouchesOn c m labels x 1 ⊎ TouchesOn c m labels x 2)
touches_some c m labels x v part (inl at) = inl (touches_at c m labels x 0 v part at)
touches_some c m labels x v part (inr (inl at)) = inr (inl (touches_at c m labels x 1 v part at))
touches_some c m labels x v part (inr (inr at)) = inr (inr (touches_at c m labels x 2 v part at))

frozen_by : (c : Chunking) (m : ℕ) (labels : List ℕ) (x : ℕ)
    → TouchesOn c m labels x 0 ⊎ (TouchesOn c m labels x 1 ⊎ TouchesOn c m labels x 2) → IsFrozen c m labels x
frozen_by c m labels x (inl on) = let here = part_at c m labels x 0 on in
    record { voxel = here.0; part = here.1; at_face = inl here.2 }
frozen_by c m labels x (inr (inl on)) = let here = part_at c m labels x 1 on in
    record { voxel = here.0; part = here.1; at_face = inr (inl here.2) }
frozen_by c m labels x (inr (inr on)) = let here = part_at c m labels x 2 on in
    record { voxel = here.0; part = here.1; at_face = inr (inr here.2) }

-- a name is frozen exactly where it touches some artificial face
pub frozen_touches : (c : Chunking) (m : ℕ) (labels : List ℕ) (x : ℕ)
    → IsFrozen c m labels x ↔ (touched_faces c m labels x ≢ 0)
frozen_touches c m labels x = (
  (λ frozen. bit_set (touches_low c m labels x 0) (touches_high c m labels x 0) (touches_low c m labels x 1)
      (touches_high c m labels x 1) (touches_low c m labels x 2) (touches_high c m labels x 2)
      (touches_some c m labels x frozen.voxel frozen.part frozen.at_face)),
  (λ some. frozen_by c m labels x (some_bit (touches_low c m labels x 0) (touches_high c m labels x 0)
      (touches_low c m labels x 1) (touches_high c m labels x 1) (touches_low c m labels x 2)
      (touches_high c m labels x 2) some)),
)
