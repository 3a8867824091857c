-- The voxels of a box: their places in the box and in the volume.
use Rattle.std.proofs.Common.{◌≡◌, ℕ, ◌+◌, ◌-◌, ◌<◌, ◌≤◌, List, [], ◌∷◌, get_or, ap, ◌∙◌, subst, arith}
use Rattle.std.proofs.Math.Nat.{mul-le-mul}
use Rattle.agglo_model.specs.Axes.{Axes, IsWithinLimits, IsPlace, voxel_count, voxel_at, coordinate}
use Rattle.agglo_model.specs.Boxes.{IsBoxOf, box_grid, box_voxel, box_index}
use Rattle.agglo_model.specs.Cell.{IsInBox}
use Rattle.agglo_model.proofs.Places.{voxel_at-lt, place-voxel, voxel_at-place, coordinate-voxel_at_x, coordinate-voxel_at_y, coordinate-voxel_at_z}

-- a box is within the limits of a volume's axes
pub box_limits : (a : Axes) (lo hi : List ℕ) → IsWithinLimits a → IsBoxOf a lo hi → IsWithinLimits (box_grid lo hi)
box_limits a lo hi limits box =
    let x : get_or hi 0 0 - get_or lo 0 0 ≤ a.nx = omega (arith, box.most_x) in
    let y : get_or hi 1 0 - get_or lo 1 0 ≤ a.ny = omega (arith, box.most_y) in
    let z : get_or hi 2 0 - get_or lo 2 0 ≤ a.nz = omega (arith, box.most_z) in
    record {
      some_x = omega (arith, box.some_x);
      some_y = omega (arith, box.some_y);
      some_z = omega (arith, box.some_z);
      most_x = omega (arith, limits.most_x);
      most_y = omega (arith, limits.most_y);
      most_z = omega (arith, limits.most_z);
      most_voxels = omega (arith, limits.most_voxels, mul-le-mul (mul-le-mul x y) z);
    }

-- a place in the box is a place in the volume
pub box_place : (a : Axes) (lo hi : List ℕ) (x y z : ℕ) → IsBoxOf a lo hi → IsPlace (box_grid lo hi) x y z
    → IsPlace a (get_or lo 0 0 + x) (get_or lo 1 0 + y) (get_or lo 2 0 + z)
box_place a lo hi x y z box place = record {
  in_x = omega (arith, box.most_x, place.in_x);
  in_y = omega (arith, box.most_y, place.in_y);
  in_z = omega (arith, box.most_z, place.in_z);
}

-- the voxel of the volume at a place in the box
pub box_voxel-place : (a : Axes) (lo hi : List ℕ) (x y z : ℕ) → IsPlace (box_grid lo hi) x y z
    → box_voxel a lo hi (voxel_at (box_grid lo hi) x y z)
    ≡ voxel_at a (get_or lo 0 0 + x) (get_or lo 1 0 + y) (get_or lo 2 0 + z)
box_voxel-place a lo hi x y z place = λ i. voxel_at a
    (get_or lo 0 0 + coordinate-voxel_at_x (box_grid lo hi) x y z place i)
    (get_or lo 1 0 + coordinate-voxel_at_y (box_grid lo hi) x y z place i)
    (get_or lo 2 0 + coordinate-voxel_at_z (box_grid lo hi) x y z place i)

-- the place in the volume of a voxel of the box
pub record IsBoxPlace (a : Axes) (lo hi : List ℕ) (i : ℕ) : Type 0 where
  pub own : IsPlace (box_grid lo hi) (coordinate (box_grid lo hi) i 0) (coordinate (box_grid lo hi) i 1) (coordinate (box_grid lo hi) i 2)
  pub place : IsPlace a
      (get_or lo 0 0 + coordinate (box_grid lo hi) i 0)
      (get_or lo 1 0 + coordinate (box_grid lo hi) i 1)
      (get_or lo 2 0 + coordinate (box_grid lo hi) i 2)

pub place_of_box : (a : Axes) (lo hi : List ℕ) (i : ℕ) → IsWithinLimits a → IsBoxOf a lo hi
    → i < voxel_count (box_grid lo hi) → IsBoxPlace a lo hi i
place_of_box a lo hi i limits box below =
    let own = place-voxel (box_grid lo hi) i (box_limits a lo hi limits box) below in
    record { own = own; place = box_place a lo hi _ _ _ box own }

pub box_voxel-lt : (a : Axes) (lo hi : List ℕ) (i : ℕ) → IsWithinLimits a → IsBoxOf a lo hi
    → i < voxel_count (box_grid lo hi) → box_voxel a lo hi i < voxel_count a
box_voxel-lt a lo hi i limits box below = voxel_at-lt a _ _ _ (place_of_box a lo hi i limits box below).place

-- its coordinates, one by one
pub box_voxel-x : (a : Axes) (lo hi : List ℕ) (i : ℕ) → IsBoxPlace a lo hi i
    → coordinate a (box_voxel a lo hi i) 0 ≡ get_or lo 0 0 + coordinate (box_grid lo hi) i 0
box_voxel-x a lo hi i at = coordinate-voxel_at_x a _ _ _ at.place

pub box_voxel-y : (a : Axes) (lo hi : List ℕ) (i : ℕ) → IsBoxPlace a lo hi i
    → coordinate a (box_voxel a lo hi i) 1 ≡ get_or lo 1 0 + coordinate (box_grid lo hi) i 1
box_voxel-y a lo hi i at = coordinate-voxel_at_y a _ _ _ at.place

pub box_voxel-z : (a : Axes) (lo hi : List ℕ) (i : ℕ) → IsBoxPlace a lo hi i
    → coordinate a (box_voxel a lo hi i) 2 ≡ get_or lo 2 0 + coordinate (box_grid lo hi) i 2
box_voxel-z a lo hi i at = coordinate-voxel_at_z a _ _ _ at.place

-- a voxel of the box lies in it
pub box_voxel_in : (a : Axes) (lo hi : List ℕ) (i : ℕ) → IsBoxPlace a lo hi i → IsInBox a lo hi (box_voxel a lo hi i)
box_voxel_in a lo hi i at = record {
  from_x = omega (arith, box_voxel-x a lo hi i at);
  to_x = omega (arith, box_voxel-x a lo hi i at, at.own.in_x);
  from_y = omega (arith, box_voxel-y a lo hi i at);
  to_y = omega (arith, box_voxel-y a lo hi i at, at.own.in_y);
  from_z = omega (arith, box_voxel-z a lo hi i at);
  to_z = omega (arith, box_voxel-z a lo hi i at, at.own.in_z);
}

-- a voxel in the box has a place in it, and a number
pub index_place : (a : Axes) (lo hi : List ℕ) (v : ℕ) → IsInBox a lo hi v
    → IsPlace (box_grid lo hi) (coordinate a v 0 - get_or lo 0 0) (coordinate a v 1 - get_or lo 1 0) (coordinate a v 2 - get_or lo 2 0)
index_place a lo hi v at = record {
  in_x = omega (arith, at.from_x, at.to_x);
  in_y = omega (arith, at.from_y, at.to_y);
  in_z = omega (arith, at.from_z, at.to_z);
}

pub box_index-lt : (a : Axes) (lo hi : List ℕ) (v : ℕ) → IsInBox a lo hi v
    → box_index a lo hi v < voxel_count (box_grid lo hi)
box_index-lt a lo hi v at = voxel_at-lt (box_grid lo hi) _ _ _ (index_place a lo hi v at)

-- which leads back to it
pub box_voxel-index : (a : Axes) (lo hi : List ℕ) (v : ℕ) → IsInBox a lo hi v
    → box_voxel a lo hi (box_index a lo hi v) ≡ v
box_voxel-index a lo hi v at =
    let x : get_or lo 0 0 + (coordinate a v 0 - get_or lo 0 0) ≡ coordinate a v 0 = omega (arith, at.from_x) in
    let y : get_or lo 1 0 + (coordinate a v 1 - get_or lo 1 0) ≡ coordinate a v 1 = omega (arith, at.from_y) in
    let z : get_or lo 2 0 + (coordinate a v 2 - get_or lo 2 0) ≡ coordinate a v 2 = omega (arith, at.from_z) in
    box_voxel-place a lo hi _ _ _ (index_place a lo hi v at)
    ∙ (λ i. voxel_at a (x i) (y i) (z i))
    ∙ voxel_at-place a v

pub box_index-voxel : (a : Axes) (lo hi : List ℕ) (i : ℕ) → IsBoxPlace a lo hi i
    → box_index a lo hi (box_voxel a lo hi i) ≡ i
box_index-voxel a lo hi i at =
    let x : coordinate a (box_voxel a lo hi i) 0 - get_or lo 0 0 ≡ coordinate (box_grid lo hi) i 0 = omega (arith, box_voxel-x a lo hi i at) in
    let y : coordinate a (box_voxel a lo hi i) 1 - get_or lo 1 0 ≡ coordinate (box_grid lo hi) i 1 = omega (arith, box_voxel-y a lo hi i at) in
    let z : coordinate a (box_voxel a lo hi i) 2 - get_or lo 2 0 ≡ coordinate (box_grid lo hi) i 2 = omega (arith, box_voxel-z a lo hi i at) in
    (λ j. voxel_at (box_grid lo hi) (x j) (y j) (z j)) ∙ voxel_at-place (box_grid lo hi) i

-- a voxel in a box of the volume is a voxel of the volume
pub in_box-lt : (a : Axes) (lo hi : List ℕ) (v : ℕ) → IsBoxOf a lo hi → IsInBox a lo hi v → v < voxel_count a
in_box-lt a lo hi v box at =
    subst (λ u. u < voxel_count a) (voxel_at-place a v)
    (voxel_at-lt a _ _ _ (record {
      in_x = omega (arith, at.to_x, box.most_x);
      in_y = omega (arith, at.to_y, box.most_y);
      in_z = omega (arith, at.to_z, box.most_z);
    }))

-- the box of all voxels, whose voxels have their own numbers
pub whole_box : (a : Axes) → IsWithinLimits a → IsBoxOf a (0 ∷ 0 ∷ 0 ∷ []) (a.nx ∷ a.ny ∷ a.nz ∷ [])
whole_box a limits = record {
  some_x = limits.some_x;
  some_y = limits.some_y;
  some_z = limits.some_z;
  most_x = omega arith;
  most_y = omega arith;
  most_z = omega arith;
}

pub whole_grid : (a : Axes) → box_grid (0 ∷ 0 ∷ 0 ∷ []) (a.nx ∷ a.ny ∷ a.nz ∷ []) ≡ a
whole_grid a =
    let x : a.nx - 0 ≡ a.nx = omega arith in
    let y : a.ny - 0 ≡ a.ny = omega arith in
    let z : a.nz - 0 ≡ a.nz = omega arith in
    λ i. record { nx = x i; ny = y i; nz = z i }

pub whole_voxel : (a : Axes) (v : ℕ) → box_voxel a (0 ∷ 0 ∷ 0 ∷ []) (a.nx ∷ a.ny ∷ a.nz ∷ []) v ≡ v
whole_voxel a v =
    ap (λ g. voxel_at a (0 + coordinate g v 0) (0 + coordinate g v 1) (0 + coordinate g v 2)) (whole_grid a)
    ∙ (λ i. voxel_at a (plain (coordinate a v 0) i) (plain (coordinate a v 1) i) (plain (coordinate a v 2) i))
    ∙ voxel_at-place a v
  where
    plain : (n : ℕ) → 0 + n ≡ n
    plain n = omega arith
