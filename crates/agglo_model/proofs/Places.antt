-- Voxels and their places, and edges and their ends.
use Rattle.std.proofs.Common.{◌≡◌, ℕ, ◌+◌, ◌*◌, ◌-◌, ◌/◌, ◌%◌, ◌<◌, ◌≤◌, Bool, true, false, cond, ◌==◌, nat_lt, ◌&&◌, refl, ap, sym, ◌∙◌, arith}
use Rattle.std.proofs.lemmas.Bool.Decides.{nat_tests}
use Rattle.std.proofs.lemmas.Nat.{mul-add-lt, div-mul-add, mod-mul-add}
use Rattle.std.proofs.Math.Nat.{mod-lt, mul-pos, div-add-mod, div-div-eq-div-mul, div-lt_iff_lt-mul, mul-div-le, le-mul_of_pos_right, mod-le}
use Rattle.agglo_model.specs.Axes.{Axes, IsWithinLimits, IsPlace, IsEdgeBetween, voxel_count, voxel_at, coordinate, stride, edge_count, lower_end, higher_end}

-- a place has a voxel
pub voxel_at-lt : (a : Axes) (x y z : ℕ) → IsPlace a x y z → voxel_at a x y z < voxel_count a
voxel_at-lt a x y z p =
    let row : z * a.ny + y < a.ny * a.nz = mul-add-lt z a.ny y a.nz p.in_z p.in_y in
    let all : (z * a.ny + y) * a.nx + x < a.nx * (a.ny * a.nz) = mul-add-lt (z * a.ny + y) a.nx x (a.ny * a.nz) row p.in_x in
    omega arith

-- a voxel has a place
pub place-voxel : (a : Axes) (v : ℕ) → IsWithinLimits a → v < voxel_count a
    → IsPlace a (coordinate a v 0) (coordinate a v 1) (coordinate a v 2)
place-voxel a v limits below =
    let layer : 0 < a.nx * a.ny = mul-pos limits.some_x limits.some_y in
    let above : v < a.nz * (a.nx * a.ny) = omega arith in
    record {
      in_x = mod-lt v limits.some_x;
      in_y = mod-lt (v / a.nx) limits.some_y;
      in_z = (div-lt_iff_lt-mul layer).1 above;
    }

-- the third coordinate from the number of the row
pub row_layer : (a : Axes) (v : ℕ) → v / a.nx / a.ny ≡ coordinate a v 2
row_layer a v = div-div-eq-div-mul v a.nx a.ny

-- the voxel at the place of v is v
pub voxel_at-place : (a : Axes) (v : ℕ) → voxel_at a (coordinate a v 0) (coordinate a v 1) (coordinate a v 2) ≡ v
voxel_at-place a v =
    let rows : a.nx * (v / a.nx) + v % a.nx ≡ v = div-add-mod v a.nx in
    let layers : a.ny * (v / a.nx / a.ny) + v / a.nx % a.ny ≡ v / a.nx = div-add-mod (v / a.nx) a.ny in
    let third : a.ny * (v / a.nx / a.ny) ≡ a.ny * (v / (a.nx * a.ny)) = ap (λ layer. a.ny * layer) (row_layer a v) in
    let within : v / a.nx % a.ny + a.ny * (v / (a.nx * a.ny)) ≡ v / a.nx = omega arith in
    ap (λ row. v % a.nx + a.nx * row) within ∙ omega arith

-- the place of the voxel at a place is that place
pub coordinate-voxel_at_x : (a : Axes) (x y z : ℕ) → IsPlace a x y z → coordinate a (voxel_at a x y z) 0 ≡ x
coordinate-voxel_at_x a x y z p =
    let e : voxel_at a x y z ≡ (y + a.ny * z) * a.nx + x = omega arith in
    ap (λ v. v % a.nx) e ∙ mod-mul-add (y + a.ny * z) a.nx x p.in_x

pub voxel_at-row : (a : Axes) (x y z : ℕ) → IsPlace a x y z → voxel_at a x y z / a.nx ≡ z * a.ny + y
voxel_at-row a x y z p =
    let e : voxel_at a x y z ≡ (z * a.ny + y) * a.nx + x = omega arith in
    ap (λ v. v / a.nx) e ∙ div-mul-add (z * a.ny + y) a.nx x p.in_x

pub coordinate-voxel_at_y : (a : Axes) (x y z : ℕ) → IsPlace a x y z → coordinate a (voxel_at a x y z) 1 ≡ y
coordinate-voxel_at_y a x y z p = ap (λ row. row % a.ny) (voxel_at-row a x y z p) ∙ mod-mul-add z a.ny y p.in_y

pub coordinate-voxel_at_z : (a : Axes) (x y z : ℕ) → IsPlace a x y z → coordinate a (voxel_at a x y z) 2 ≡ z
coordinate-voxel_at_z a x y z p =
    sym (row_layer a (voxel_at a x y z)) ∙ ap (λ row. row / a.ny) (voxel_at-row a x y z p) ∙ div-mul-add z a.ny y p.in_y

-- what is taken off leaves less
descends : (n k : ℕ) → 0 < k → k ≤ n → n - k < n
descends n k some most = omega arith

-- the two tests of an edge number
edge_by_tests : (count e x : ℕ) → e < count → 0 < x → (nat_lt e count && nat_lt 0 x) ≡ true
edge_by_tests count e x below some = grind (arith, nat_tests)

-- the same for each axis, by the tests that tell the axes apart
by_axis : (a : Axes) (v : ℕ) (is_x is_y : Bool)
    → 0 < cond is_x (v % a.nx) (cond is_y (v / a.nx % a.ny) (v / (a.nx * a.ny)))
    → cond is_x 1 (cond is_y a.nx (a.nx * a.ny)) ≤ v
by_axis a v true is_y some = omega (arith, mod-le v a.nx)
by_axis a v false true some =
    let row : 0 < v / a.nx = omega (arith, mod-le (v / a.nx) a.ny) in
    omega (arith, le-mul_of_pos_right a.nx row, mul-div-le v a.nx)
by_axis a v false false some =
    omega (arith, le-mul_of_pos_right (a.nx * a.ny) some, mul-div-le v (a.nx * a.ny))

-- a voxel with a predecessor on an axis has a number of at least that axis's stride
pub stride_le : (a : Axes) (v c : ℕ) → 0 < coordinate a v c → stride a c ≤ v
stride_le a v c some = by_axis a v (c == 0) (c == 1) some

-- no stride is 0
pub stride_pos : (a : Axes) (c : ℕ) → IsWithinLimits a → 0 < stride a c
stride_pos a c limits =
    let layer : 0 < a.nx * a.ny = mul-pos limits.some_x limits.some_y in
    let first : 0 < a.nx = limits.some_x in
    grind (arith, nat_tests)

-- a number with a coordinate above 0 is that of an edge, whose ends are voxels in ascending order
pub edge_between : (a : Axes) (e : ℕ) → IsWithinLimits a → e < edge_count a → 0 < coordinate a (e / 3) (e % 3)
    → IsEdgeBetween a e (lower_end a e) (higher_end e)
edge_between a e limits below some =
    let least : stride a (e % 3) ≤ e / 3 = stride_le a (e / 3) (e % 3) some in
    let step : 0 < stride a (e % 3) = stride_pos a (e % 3) limits in
    record {
      edge = edge_by_tests (edge_count a) e (coordinate a (e / 3) (e % 3)) below some;
      lower_is = refl;
      higher_is = refl;
      ascending = descends (e / 3) (stride a (e % 3)) step least;
      voxel = omega arith;
    }
