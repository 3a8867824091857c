-- Edges of a grid and their two ends.
use Rattle.std.proofs.Common.{◌≡◌, ℕ, ◌+◌, ◌*◌, ◌/◌, ◌%◌, ◌<◌, ◌≤◌, ◌⊎◌, ◌&&◌, IsTrue, nat_lt, ap, inl, inr, suc, zero, arith}
use Rattle.std.proofs.Math.Nat.{mod-le, div-mul-le_self, mul-le-mul_right, mul-pos}
use Rattle.std.proofs.lemmas.Bool.Decides.{nat_tests}
use Rattle.agglo_model.specs.Axes.{Axes, voxel_count, edge_count, coordinate, stride, is_edge, lower_end, higher_end}

-- what the test for an edge says
pub record IsEdge (a : Axes) (e : ℕ) : Type 0 where
  pub numbered : e < edge_count a
  pub inside : 0 < coordinate a (e / 3) (e % 3)

both_tests : (n m k l : ℕ) → IsTrue (nat_lt n m && nat_lt k l) → (n < m) × (k < l)
both_tests n m k l t = grind (arith, nat_tests)

tests_both : (n m k l : ℕ) → n < m → k < l → IsTrue (nat_lt n m && nat_lt k l)
tests_both n m k l p q = grind (arith, nat_tests)

pub edge_is : (a : Axes) (e : ℕ) → IsTrue (is_edge a e) → IsEdge a e
edge_is a e t =
    let p = both_tests e (edge_count a) 0 (coordinate a (e / 3) (e % 3)) t in
    record { numbered = p.0; inside = p.1 }

pub is_edge_from : (a : Axes) (e : ℕ) → IsEdge a e → IsTrue (is_edge a e)
is_edge_from a e h = tests_both e (edge_count a) 0 (coordinate a (e / 3) (e % 3)) h.numbered h.inside

-- the three axes
pub each_axis : (P : ℕ → Type 0) (c : ℕ) → c < 3 → P 0 → P 1 → P 2 → P c
each_axis P zero lt p q r = p
each_axis P (suc zero) lt p q r = q
each_axis P (suc (suc zero)) lt p q r = r
each_axis P (suc (suc (suc c))) lt p q r = absurd (omega arith)

at_least : (v w : ℕ) → 0 < v / w → w ≤ v
at_least v w pos = omega (arith, div-mul-le_self v w, mul-le-mul_right w pos)

-- the number of a voxel with a predecessor on an axis is at least the stride
pub stride-le : (a : Axes) (v c : ℕ) → c < 3 → 0 < coordinate a v c → stride a c ≤ v
stride-le a v c lt = each_axis (λ d. 0 < coordinate a v d → stride a d ≤ v) c lt
    (λ pos. let h : v % a.nx ≤ v = mod-le v a.nx in omega arith)
    (λ pos. let h : v / a.nx % a.ny ≤ v / a.nx = mod-le (v / a.nx) a.ny in at_least v a.nx (omega arith))
    (λ pos. at_least v (a.nx * a.ny) pos)

pub higher_end_below : (a : Axes) (e : ℕ) → IsTrue (is_edge a e) → higher_end e < voxel_count a
higher_end_below a e t = let h : e < edge_count a = (edge_is a e t).numbered in omega arith

first_pos : (x y z v : ℕ) → v < x * y * z → 0 < x
first_pos zero y z v lt = absurd (omega arith)
first_pos (suc x) y z v lt = omega arith

second_pos : (x y z v : ℕ) → v < x * y * z → 0 < y
second_pos x zero z v lt = absurd (omega arith)
second_pos x (suc y) z v lt = omega arith

-- a volume with a voxel has no empty axis
pub stride_pos : (a : Axes) (v c : ℕ) → v < voxel_count a → c < 3 → 0 < stride a c
stride_pos a v c lt three =
    let x : 0 < a.nx = first_pos a.nx a.ny a.nz v lt in
    let y : 0 < a.ny = second_pos a.nx a.ny a.nz v lt in
    each_axis (λ d. 0 < stride a d) c three (omega arith) x (mul-pos x y)

-- the lower end of an edge lies one stride below the higher
pub lower-stride : (a : Axes) (e : ℕ) → IsTrue (is_edge a e)
    → lower_end a e + stride a (e % 3) ≡ higher_end e
lower-stride a e t =
    let h = stride-le a (e / 3) (e % 3) (omega arith) (edge_is a e t).inside in
    omega arith

pub lower_below_higher : (a : Axes) (e : ℕ) → IsTrue (is_edge a e) → lower_end a e < higher_end e
lower_below_higher a e t =
    let p = stride_pos a (e / 3) (e % 3) (higher_end_below a e t) (omega arith) in
    let h = lower-stride a e t in
    omega arith

-- the two edges that a voxel may have on an axis: to its predecessor, and from its successor
abbrev pub edge_back : ℕ → ℕ → ℕ
edge_back v c = 3 * v + c

abbrev pub edge_on : Axes → ℕ → ℕ → ℕ
edge_on a v c = 3 * (v + stride a c) + c

-- an edge that meets a voxel is one of these, on the axis of its number
pub meets_either : (a : Axes) (v e : ℕ) → IsTrue (is_edge a e) → (lower_end a e ≡ v) ⊎ (higher_end e ≡ v)
    → (e ≡ edge_back v (e % 3)) ⊎ (e ≡ edge_on a v (e % 3))
meets_either a v e t (inl m) =
    let h = lower-stride a e t in
    let p : e ≡ edge_on a v (e % 3) = omega arith in
    inr p
meets_either a v e t (inr m) = let p : e ≡ edge_back v (e % 3) = omega arith in inl p

pub edge_back_meets : (v c : ℕ) → c < 3 → higher_end (edge_back v c) ≡ v
edge_back_meets v c lt = omega arith

pub edge_on_meets : (a : Axes) (v c : ℕ) → c < 3 → lower_end a (edge_on a v c) ≡ v
edge_on_meets a v c lt =
    let q : edge_on a v c / 3 ≡ v + stride a c = omega arith in
    let r : edge_on a v c % 3 ≡ c = omega arith in
    let s : stride a (edge_on a v c % 3) ≡ stride a c = ap (stride a) r in
    omega arith
