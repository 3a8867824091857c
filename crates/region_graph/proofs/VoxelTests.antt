-- Boxes of voxels gone over row by row: which voxels have been seen, and which are in the next row.
use Rattle.std.proofs.Common.{◌≡◌, ℕ, ◌+◌, ◌-◌, ◌<◌, ◌≤◌, Bool, true, false, ◌&&◌, ◌||◌, eqb, ltb, leb, List, get_or, sym, ap, ◌∙◌, subst, arith}
use Rattle.std.proofs.lemmas.Bool.Decides.{nat_tests}
use Rattle.std.specs.Cmp.{both_ways}
use Rattle.agglo_model.specs.Axes.{Axes, IsPlace, voxel_count, voxel_at, coordinate}
use Rattle.agglo_model.specs.Cell.{IsInBox}
use Rattle.agglo_model.proofs.Places.{voxel_at-lt, voxel_at-place, coordinate-voxel_at_x, coordinate-voxel_at_y, coordinate-voxel_at_z}
use Rattle.region_graph.specs.Boxes.{IsBox, in_box, in_run, in_span}

-- ---- voxels in a box

box_parts : (v n p a b q c d r e f : ℕ)
    → (ltb v n && ((leb a p && ltb p b) && ((leb c q && ltb q d) && (leb e r && ltb r f)))) ≡ true
    → (v < n) × (a ≤ p) × (p < b) × (c ≤ q) × (q < d) × (e ≤ r) × (r < f)
box_parts v n p a b q c d r e f pass = grind (arith, nat_tests)

box_whole : (v n p a b q c d r e f : ℕ) → v < n → a ≤ p → p < b → c ≤ q → q < d → e ≤ r → r < f
    → (ltb v n && ((leb a p && ltb p b) && ((leb c q && ltb q d) && (leb e r && ltb r f)))) ≡ true
box_whole v n p a b q c d r e f below x_low x_high y_low y_high z_low z_high = grind (arith, nat_tests)

pub in_box-voxel : (a : Axes) (lo hi : List ℕ) (v : ℕ) → in_box a lo hi v ≡ true → v < voxel_count a
in_box-voxel a lo hi v pass = (box_parts v (voxel_count a) (coordinate a v 0) (get_or lo 0 0) (get_or hi 0 0)
    (coordinate a v 1) (get_or lo 1 0) (get_or hi 1 0) (coordinate a v 2) (get_or lo 2 0) (get_or hi 2 0) pass).0

pub in_box-is : (a : Axes) (lo hi : List ℕ) (v : ℕ) → in_box a lo hi v ≡ true → IsInBox a lo hi v
in_box-is a lo hi v pass =
    let parts = box_parts v (voxel_count a) (coordinate a v 0) (get_or lo 0 0) (get_or hi 0 0)
    (coordinate a v 1) (get_or lo 1 0) (get_or hi 1 0) (coordinate a v 2) (get_or lo 2 0) (get_or hi 2 0) pass in
    record { from_x = parts.1; to_x = parts.2; from_y = parts.3; to_y = parts.4; from_z = parts.5; to_z = parts.6 }

pub in_box-from : (a : Axes) (lo hi : List ℕ) (v : ℕ) → v < voxel_count a → IsInBox a lo hi v → in_box a lo hi v ≡ true
in_box-from a lo hi v below is =
    box_whole v (voxel_count a) (coordinate a v 0) (get_or lo 0 0) (get_or hi 0 0)
    (coordinate a v 1) (get_or lo 1 0) (get_or hi 1 0) (coordinate a v 2) (get_or lo 2 0) (get_or hi 2 0)
    below is.from_x is.to_x is.from_y is.to_y is.from_z is.to_z

-- ---- the voxels of the rows before one of them

-- v lies in a layer below z, or in layer z in a row before y
abbrev pub is_before : Axes → ℕ → ℕ → ℕ → Bool
is_before a y z v = ltb (coordinate a v 2) z || (eqb (coordinate a v 2) z && ltb (coordinate a v 1) y)

-- v lies in a row of the box before the one at y and z
abbrev pub is_seen : Axes → List ℕ → List ℕ → ℕ → ℕ → ℕ → Bool
is_seen a lo hi y z v = in_box a lo hi v && is_before a y z v

-- the voxels of the box in the row at y and z
abbrev pub in_row : Axes → List ℕ → List ℕ → ℕ → ℕ → ℕ → Bool
in_row a lo hi y z v = in_run (voxel_at a 0 y z + get_or lo 0 0) (voxel_at a 0 y z + get_or hi 0 0) v

none_of : (i s t : Bool) (r q l h : ℕ)
    → ((i && (s && (t && (leb l r && ltb r h)))) && (ltb r l || (eqb r l && ltb q 0))) ≡ false
none_of i s t r q l h = grind (arith, nat_tests)

-- none before the first row
pub seen_none : (a : Axes) (lo hi : List ℕ) (v : ℕ) → is_seen a lo hi 0 (get_or lo 2 0) v ≡ false
seen_none a lo hi v = none_of (ltb v (voxel_count a)) (in_span a lo hi v 0) (in_span a lo hi v 1)
    (coordinate a v 2) (coordinate a v 1) (get_or lo 2 0) (get_or hi 2 0)

first_of : (i s t : Bool) (q r l h z : ℕ)
    → ((i && (s && ((leb l q && ltb q h) && t))) && (ltb r z || (eqb r z && ltb q 0)))
    ≡ ((i && (s && ((leb l q && ltb q h) && t))) && (ltb r z || (eqb r z && ltb q l)))
first_of i s t q r l h z = grind (arith, nat_tests)

-- the box has no voxel in a layer before its first row there
pub seen_first : (a : Axes) (lo hi : List ℕ) (z v : ℕ) → is_seen a lo hi 0 z v ≡ is_seen a lo hi (get_or lo 1 0) z v
seen_first a lo hi z v = first_of (ltb v (voxel_count a)) (in_span a lo hi v 0) (in_span a lo hi v 2)
    (coordinate a v 1) (coordinate a v 2) (get_or lo 1 0) (get_or hi 1 0) z

layer_of : (i s t : Bool) (q r l h z : ℕ)
    → ((i && (s && ((leb l q && ltb q h) && t))) && (ltb r z || (eqb r z && ltb q h)))
    ≡ ((i && (s && ((leb l q && ltb q h) && t))) && (ltb r (z + 1) || (eqb r (z + 1) && ltb q 0)))
layer_of i s t q r l h z = grind (arith, nat_tests)

-- nor after its last row there
pub seen_layer : (a : Axes) (lo hi : List ℕ) (z v : ℕ) → is_seen a lo hi (get_or hi 1 0) z v ≡ is_seen a lo hi 0 (z + 1) v
seen_layer a lo hi z v = layer_of (ltb v (voxel_count a)) (in_span a lo hi v 0) (in_span a lo hi v 2)
    (coordinate a v 1) (coordinate a v 2) (get_or lo 1 0) (get_or hi 1 0) z

all_of : (i s t : Bool) (r q l h : ℕ)
    → ((i && (s && (t && (leb l r && ltb r h)))) && (ltb r h || (eqb r h && ltb q 0)))
    ≡ (i && (s && (t && (leb l r && ltb r h))))
all_of i s t r q l h = grind (arith, nat_tests)

-- all after the last layer
pub seen_all : (a : Axes) (lo hi : List ℕ) (v : ℕ) → is_seen a lo hi 0 (get_or hi 2 0) v ≡ in_box a lo hi v
seen_all a lo hi v = all_of (ltb v (voxel_count a)) (in_span a lo hi v 0) (in_span a lo hi v 1)
    (coordinate a v 2) (coordinate a v 1) (get_or lo 2 0) (get_or hi 2 0)

-- ---- one row more

row_place : (a : Axes) (lo hi : List ℕ) (y z v : ℕ) → IsBox a lo hi → get_or lo 1 0 ≤ y → y < get_or hi 1 0
    → get_or lo 2 0 ≤ z → z < get_or hi 2 0 → in_row a lo hi y z v ≡ true
    → (in_box a lo hi v ≡ true) × (coordinate a v 1 ≡ y) × (coordinate a v 2 ≡ z)
row_place a lo hi y z v box y_low y_high z_low z_high pass =
    let run = run_parts (voxel_at a 0 y z + get_or lo 0 0) (voxel_at a 0 y z + get_or hi 0 0) v pass in
    let x = v - voxel_at a 0 y z in
    let is : voxel_at a x y z ≡ v = omega (arith, run.0) in
    let place : IsPlace a x y z =
    record { in_x = omega (arith, run.0, run.1, box.most_x); in_y = omega (arith, box.most_y); in_z = omega (arith, box.most_z) } in
    let on_x : coordinate a v 0 ≡ x = ap (λ w. coordinate a w 0) (sym is) ∙ coordinate-voxel_at_x a x y z place in
    let on_y : coordinate a v 1 ≡ y = ap (λ w. coordinate a w 1) (sym is) ∙ coordinate-voxel_at_y a x y z place in
    let on_z : coordinate a v 2 ≡ z = ap (λ w. coordinate a w 2) (sym is) ∙ coordinate-voxel_at_z a x y z place in
    let below : v < voxel_count a = subst (λ w. w < voxel_count a) is (voxel_at-lt a x y z place) in (
      in_box-from a lo hi v below (record {
        from_x = omega (arith, on_x, run.0);
        to_x = omega (arith, on_x, run.1);
        from_y = omega (arith, on_y);
        to_y = omega (arith, on_y);
        from_z = omega (arith, on_z);
        to_z = omega (arith, on_z);
      }),
      on_y,
      on_z,
    )
  where
    run_parts : (from to w : ℕ) → (leb from w && ltb w to) ≡ true → (from ≤ w) × (w < to)
    run_parts from to w pass = grind (arith, nat_tests)

in_row_from : (a : Axes) (lo hi : List ℕ) (y z v : ℕ) → in_box a lo hi v ≡ true → coordinate a v 1 ≡ y → coordinate a v 2 ≡ z
    → in_row a lo hi y z v ≡ true
in_row_from a lo hi y z v pass on_y on_z =
    let is = in_box-is a lo hi v pass in
    let place = voxel_at-place a v in
    let here : coordinate a v 0 + voxel_at a 0 y z ≡ v =
    (λ i. coordinate a v 0 + voxel_at a 0 (sym on_y i) (sym on_z i)) ∙ omega (arith, place) in
    run_whole (voxel_at a 0 y z + get_or lo 0 0) (voxel_at a 0 y z + get_or hi 0 0) v
    (omega (arith, here, is.from_x)) (omega (arith, here, is.to_x))
  where
    run_whole : (from to w : ℕ) → from ≤ w → w < to → (leb from w && ltb w to) ≡ true
    run_whole from to w low high = grind (arith, nat_tests)

-- the row at y and z as a run of voxel numbers
row_is : (a : Axes) (lo hi : List ℕ) (y z v : ℕ) → IsBox a lo hi → get_or lo 1 0 ≤ y → y < get_or hi 1 0
    → get_or lo 2 0 ≤ z → z < get_or hi 2 0
    → in_row a lo hi y z v ≡ (in_box a lo hi v && (eqb (coordinate a v 2) z && eqb (coordinate a v 1) y))
row_is a lo hi y z v box y_low y_high z_low z_high = both_ways (in_row a lo hi y z v) _
    (λ pass. let at = row_place a lo hi y z v box y_low y_high z_low z_high pass in
    whole (in_box a lo hi v) (coordinate a v 2) z (coordinate a v 1) y at.0 at.2 at.1)
    (λ pass. let at = parts (in_box a lo hi v) (coordinate a v 2) z (coordinate a v 1) y pass in
    in_row_from a lo hi y z v at.0 at.2 at.1)
  where
    whole : (b : Bool) (r z q y : ℕ) → b ≡ true → r ≡ z → q ≡ y → (b && (eqb r z && eqb q y)) ≡ true
    whole b r z q y inside on_z on_y = grind (arith, nat_tests)

    parts : (b : Bool) (r z q y : ℕ) → (b && (eqb r z && eqb q y)) ≡ true → (b ≡ true) × (r ≡ z) × (q ≡ y)
    parts b r z q y pass = grind (arith, nat_tests)

more_of : (b : Bool) (r z q y : ℕ)
    → ((b && (ltb r z || (eqb r z && ltb q y))) || (b && (eqb r z && eqb q y))) ≡ (b && (ltb r z || (eqb r z && ltb q (y + 1))))
more_of b r z q y = grind (arith, nat_tests)

pub seen_more : (a : Axes) (lo hi : List ℕ) (y z v : ℕ) → IsBox a lo hi → get_or lo 1 0 ≤ y → y < get_or hi 1 0
    → get_or lo 2 0 ≤ z → z < get_or hi 2 0
    → (is_seen a lo hi y z v || in_row a lo hi y z v) ≡ is_seen a lo hi (y + 1) z v
seen_more a lo hi y z v box y_low y_high z_low z_high =
    ap (λ t. is_seen a lo hi y z v || t) (row_is a lo hi y z v box y_low y_high z_low z_high)
    ∙ more_of (in_box a lo hi v) (coordinate a v 2) z (coordinate a v 1) y

apart_of : (b : Bool) (r z q y : ℕ)
    → ((b && (ltb r z || (eqb r z && ltb q y))) && (b && (eqb r z && eqb q y))) ≡ false
apart_of b r z q y = grind (arith, nat_tests)

pub seen_apart : (a : Axes) (lo hi : List ℕ) (y z v : ℕ) → IsBox a lo hi → get_or lo 1 0 ≤ y → y < get_or hi 1 0
    → get_or lo 2 0 ≤ z → z < get_or hi 2 0
    → (is_seen a lo hi y z v && in_row a lo hi y z v) ≡ false
seen_apart a lo hi y z v box y_low y_high z_low z_high =
    ap (λ t. is_seen a lo hi y z v && t) (row_is a lo hi y z v box y_low y_high z_low z_high)
    ∙ apart_of (in_box a lo hi v) (coordinate a v 2) z (coordinate a v 1) y

-- a row of the box as voxels of the volume
pub row_inside : (a : Axes) (lo hi : List ℕ) (y z v : ℕ) → IsBox a lo hi → get_or lo 1 0 ≤ y → y < get_or hi 1 0
    → get_or lo 2 0 ≤ z → z < get_or hi 2 0 → voxel_at a 0 y z + get_or lo 0 0 ≤ v → v < voxel_at a 0 y z + get_or hi 0 0
    → in_box a lo hi v ≡ true
row_inside a lo hi y z v box y_low y_high z_low z_high from to =
    (row_place a lo hi y z v box y_low y_high z_low z_high
    (run_whole (voxel_at a 0 y z + get_or lo 0 0) (voxel_at a 0 y z + get_or hi 0 0) v from to)).0
  where
    run_whole : (from to w : ℕ) → from ≤ w → w < to → (leb from w && ltb w to) ≡ true
    run_whole from to w low high = grind (arith, nat_tests)
