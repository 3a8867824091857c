-- The six numbers of edges at a voxel: which of them are edges, by the voxel's place.
use Rattle.std.proofs.Common.{◌≡◌, ℕ, ◌+◌, ◌*◌, ◌/◌, ◌%◌, ◌<◌, ◌≤◌, true, false, refl, sym, ◌∙◌, ap, subst, arith}
use Rattle.std.proofs.lemmas.Nat.{mod-mul-add, div-mul-add}
use Rattle.std.proofs.lemmas.Bool.{false_from_ne_true}
use Rattle.agglo_model.specs.Axes.{Axes, IsPlace, voxel_count, voxel_at, edge_count, coordinate, is_edge}
use Rattle.agglo_model.proofs.Edges.{is_edge_from, edge_is, edge_back, edge_on}
use Rattle.agglo_model.proofs.Places.{voxel_at-lt, coordinate-voxel_at_x, coordinate-voxel_at_y, coordinate-voxel_at_z}

-- an edge number by its voxel and axis
numbered : (a : Axes) (u c e : ℕ) → c < 3 → e ≡ 3 * u + c → u < voxel_count a → 0 < coordinate a u c
    → is_edge a e ≡ true
numbered a u c e lt is below some =
    let voxel : e / 3 ≡ u = omega arith in
    let axis : e % 3 ≡ c = omega arith in
    is_edge_from a e (record {
      numbered = omega arith;
      inside = subst (λ d. 0 < coordinate a (e / 3) d) (sym axis)
          (subst (λ w. 0 < coordinate a w c) (sym voxel) some);
    })

not_numbered : (a : Axes) (u c e : ℕ) → c < 3 → e ≡ 3 * u + c → (u < voxel_count a → coordinate a u c ≡ 0)
    → is_edge a e ≡ false
not_numbered a u c e lt is none = false_from_ne_true (is_edge a e) (λ t.
    let edge = edge_is a e t in
    let voxel : e / 3 ≡ u = omega arith in
    let axis : e % 3 ≡ c = omega arith in
    let at : 0 < coordinate a u c = subst (λ d. 0 < coordinate a u d) axis
    (subst (λ w. 0 < coordinate a w (e % 3)) voxel edge.inside) in
    let below : e < edge_count a = edge.numbered in
    let zero_there = none (omega arith) in
    absurd (omega arith))

-- the edges to the predecessors
pub back_edge : (a : Axes) (v c : ℕ) → c < 3 → v < voxel_count a → 0 < coordinate a v c
    → is_edge a (edge_back v c) ≡ true
back_edge a v c lt below some = numbered a v c (edge_back v c) lt refl below some

pub no_back_edge : (a : Axes) (v c : ℕ) → c < 3 → coordinate a v c ≡ 0 → is_edge a (edge_back v c) ≡ false
no_back_edge a v c lt none = not_numbered a v c (edge_back v c) lt refl (λ below. none)

-- the edges from the successors
pub on_edge_x : (a : Axes) (x y z : ℕ) → IsPlace a x y z → x + 1 < a.nx
    → is_edge a (edge_on a (voxel_at a x y z) 0) ≡ true
on_edge_x a x y z p lt =
    let next : IsPlace a (x + 1) y z = record { in_x = lt; in_y = p.in_y; in_z = p.in_z } in
    let is : voxel_at a (x + 1) y z ≡ voxel_at a x y z + 1 = omega arith in
    let some : 0 < coordinate a (voxel_at a (x + 1) y z) 0 = rw (coordinate-voxel_at_x a (x + 1) y z next) (omega arith) in
    numbered a (voxel_at a x y z + 1) 0 (edge_on a (voxel_at a x y z) 0) (omega arith) refl
    (subst (λ u. u < voxel_count a) is (voxel_at-lt a (x + 1) y z next))
    (subst (λ u. 0 < coordinate a u 0) is some)

pub on_edge_y : (a : Axes) (x y z : ℕ) → IsPlace a x y z → y + 1 < a.ny
    → is_edge a (edge_on a (voxel_at a x y z) 1) ≡ true
on_edge_y a x y z p lt =
    let next : IsPlace a x (y + 1) z = record { in_x = p.in_x; in_y = lt; in_z = p.in_z } in
    let is : voxel_at a x (y + 1) z ≡ voxel_at a x y z + a.nx = omega arith in
    let some : 0 < coordinate a (voxel_at a x (y + 1) z) 1 = rw (coordinate-voxel_at_y a x (y + 1) z next) (omega arith) in
    numbered a (voxel_at a x y z + a.nx) 1 (edge_on a (voxel_at a x y z) 1) (omega arith) refl
    (subst (λ u. u < voxel_count a) is (voxel_at-lt a x (y + 1) z next))
    (subst (λ u. 0 < coordinate a u 1) is some)

pub on_edge_z : (a : Axes) (x y z : ℕ) → IsPlace a x y z → z + 1 < a.nz
    → is_edge a (edge_on a (voxel_at a x y z) 2) ≡ true
on_edge_z a x y z p lt =
    let next : IsPlace a x y (z + 1) = record { in_x = p.in_x; in_y = p.in_y; in_z = lt } in
    let is : voxel_at a x y (z + 1) ≡ voxel_at a x y z + a.nx * a.ny = omega arith in
    let some : 0 < coordinate a (voxel_at a x y (z + 1)) 2 = rw (coordinate-voxel_at_z a x y (z + 1) next) (omega arith) in
    numbered a (voxel_at a x y z + a.nx * a.ny) 2 (edge_on a (voxel_at a x y z) 2) (omega arith) refl
    (subst (λ u. u < voxel_count a) is (voxel_at-lt a x y (z + 1) next))
    (subst (λ u. 0 < coordinate a u 2) is some)

pub no_on_edge_x : (a : Axes) (x y z : ℕ) → IsPlace a x y z → a.nx ≤ x + 1
    → is_edge a (edge_on a (voxel_at a x y z) 0) ≡ false
no_on_edge_x a x y z p last =
    not_numbered a (voxel_at a x y z + 1) 0 (edge_on a (voxel_at a x y z) 0) (omega arith) refl (λ below.
    ap (λ u. u % a.nx) next_row ∙ mod-mul-add (y + a.ny * z + 1) a.nx 0 some)
  where
    some : 0 < a.nx
    some = omega (arith, p.in_x)

    next_row : voxel_at a x y z + 1 ≡ (y + a.ny * z + 1) * a.nx + 0
    next_row = omega (arith, p.in_x)

pub no_on_edge_y : (a : Axes) (x y z : ℕ) → IsPlace a x y z → a.ny ≤ y + 1
    → is_edge a (edge_on a (voxel_at a x y z) 1) ≡ false
no_on_edge_y a x y z p last =
    not_numbered a (voxel_at a x y z + a.nx) 1 (edge_on a (voxel_at a x y z) 1) (omega arith) refl (λ below.
    ap (λ u. u / a.nx % a.ny) next_layer
    ∙ ap (λ r. r % a.ny) (div-mul-add ((z + 1) * a.ny + 0) a.nx x p.in_x)
    ∙ mod-mul-add (z + 1) a.ny 0 some)
  where
    some : 0 < a.ny
    some = omega (arith, p.in_y)

    full : a.nx * (y + 1) ≡ a.nx * a.ny
    full = ap (λ t. a.nx * t) (omega (arith, p.in_y))

    next_layer : voxel_at a x y z + a.nx ≡ ((z + 1) * a.ny + 0) * a.nx + x
    next_layer = omega (arith, full)

pub no_on_edge_z : (a : Axes) (x y z : ℕ) → IsPlace a x y z → a.nz ≤ z + 1
    → is_edge a (edge_on a (voxel_at a x y z) 2) ≡ false
no_on_edge_z a x y z p last =
    not_numbered a (voxel_at a x y z + a.nx * a.ny) 2 (edge_on a (voxel_at a x y z) 2) (omega arith) refl (λ below.
    absurd (omega (arith, full)))
  where
    full : a.nx * a.ny * (z + 1) ≡ a.nx * a.ny * a.nz
    full = ap (λ t. a.nx * a.ny * t) (omega (arith, p.in_z))
