-- The cell of a node as a box, and its layers.
use Rattle.std.proofs.Common.{◌≡◌, ℕ, ◌+◌, ◌-◌, ◌^◌, ◌<◌, ◌≤◌, Bool, ◌&&◌, eqb, ltb, leb, List, [], ◌∷◌, length, get_or, refl, sym, ap, ◌∙◌, subst, arith}
use Rattle.std.proofs.lemmas.Bool.Decides.{nat_tests}
use Rattle.std.specs.Cmp.{both_ways}
use Rattle.agglo_model.specs.Axes.{Axes, IsWithinLimits, voxel_count, coordinate}
use Rattle.agglo_model.specs.Cutting.{Chunking, IsChunking, length_on, node_count, level_of, cell_length, cell_place, cell_low, cell_high, cells_on, low_corner, high_corner}
use Rattle.agglo_model.specs.Freezing.{is_held}
use Rattle.agglo_model.proofs.CellBoxes.{cells_are_boxes}
use Rattle.agglo_model.proofs.Edges.{each_axis}
use Rattle.agglo_model.proofs.Freezing.{held_voxel}
use Rattle.agglo_model.proofs.Levels.{cell_length_pos}
use Rattle.agglo_model.proofs.NodeCells.{node_place, cell_begins}
use Rattle.agglo_model.proofs.Cases.{begins_before}
use Rattle.region_graph.specs.Boxes.{IsBox, IsSomeBox, in_box, in_span, above_lowest, lowest_to, highest_from}
use Rattle.region_graph.proofs.VoxelTests.{in_box-is, in_box-from, in_box-voxel}

-- ---- the cell of a node

cell_some : (c : Chunking) → IsChunking c → (m axis : ℕ) → cell_place c m axis < cells_on c (level_of c m) axis
    → cell_low c m axis < cell_high c m axis
cell_some c h m axis place =
    begins_before (cell_place c m axis) (cell_length c (level_of c m) axis) (length_on c.axes axis)
    (cell_length_pos c h (level_of c m) axis) (cell_begins c h (level_of c m) axis (cell_place c m axis) place)

pub cell_is_box : (c : Chunking) → IsChunking c → (m : ℕ) → m < node_count c → IsSomeBox c.axes (low_corner c m) (high_corner c m)
cell_is_box c h m below =
    let place = node_place c h m below in
    record {
      some = λ axis three. each_axis (λ k. get_or (low_corner c m) k 0 < get_or (high_corner c m) k 0) axis three
          (cell_some c h m 0 place.in_x) (cell_some c h m 1 place.in_y) (cell_some c h m 2 place.in_z);
      most = λ axis three. each_axis (λ k. get_or (high_corner c m) k 0 ≤ length_on c.axes k) axis three
          (omega arith) (omega arith) (omega arith);
    }

-- the two corners are those of the cell of node m
pub record AreCorners (c : Chunking) (m : ℕ) (lo hi : List ℕ) : Type 0 where
  pub low : lo ≡ low_corner c m
  pub high : hi ≡ high_corner c m

pub corners_are : (c d : Chunking) (m : ℕ) (lo hi : List ℕ) → c ≡ d → lo ≡ low_corner c m → hi ≡ high_corner c m → AreCorners d m lo hi
corners_are c d m lo hi same low high = record {
  low = low ∙ ap (λ t. low_corner t m) same;
  high = high ∙ ap (λ t. high_corner t m) same;
}

pub corners_box : (c : Chunking) (a : Axes) (m : ℕ) (lo hi : List ℕ) → IsChunking c → c.axes ≡ a → m < node_count c
    → AreCorners c m lo hi → IsSomeBox a lo hi
corners_box c a m lo hi h same node corners =
    subst (λ b. IsSomeBox b lo hi) same
    (subst (λ ls. IsSomeBox c.axes ls hi) (sym corners.low)
    (subst (IsSomeBox c.axes (low_corner c m)) (sym corners.high) (cell_is_box c h m node)))

pub corners_three : (c : Chunking) (m : ℕ) (lo hi : List ℕ) → AreCorners c m lo hi → (length lo ≡ 3) × (length hi ≡ 3)
corners_three c m lo hi corners = (ap length corners.low, ap length corners.high)

-- the voxels of the cell
pub cell_held : (c : Chunking) → IsChunking c → (m v : ℕ) → m < node_count c
    → in_box c.axes (low_corner c m) (high_corner c m) v ≡ is_held c m v
cell_held c h m v node = both_ways (in_box c.axes (low_corner c m) (high_corner c m) v) (is_held c m v)
    (λ inside.
    let below = in_box-voxel c.axes (low_corner c m) (high_corner c m) v inside in
    (cells_are_boxes c m v h node below).1 (in_box-is c.axes (low_corner c m) (high_corner c m) v inside))
    (λ held.
    let below = held_voxel c m v held in
    in_box-from c.axes (low_corner c m) (high_corner c m) v below ((cells_are_boxes c m v h node below).0 held))

-- ---- boxes with another corner

pub some_box : (a : Axes) (lo hi : List ℕ) → IsSomeBox a lo hi → IsBox a lo hi
some_box a lo hi box =
    let x = box.some 0 (omega arith) in
    let y = box.some 1 (omega arith) in
    let z = box.some 2 (omega arith) in
    record {
      from_x = omega (arith, x);
      from_y = omega (arith, y);
      from_z = omega (arith, z);
      most_x = box.most 0 (omega arith);
      most_y = box.most 1 (omega arith);
      most_z = box.most 2 (omega arith);
    }

-- a corner of such a box is far below the end of its type
pub low_fits : (a : Axes) (lo hi : List ℕ) (axis : ℕ) → IsWithinLimits a → IsSomeBox a lo hi → axis < 3
    → get_or lo axis 0 + 1 < 2 ^ 32
low_fits a lo hi axis limits box three =
    let some = box.some axis three in
    let most = box.most axis three in
    let long : length_on a axis ≤ 65535 = each_axis (λ k. length_on a k ≤ 65535) axis three limits.most_x limits.most_y limits.most_z in
    omega arith

-- a list of three numbers
pub three_of : (xs : List ℕ) → length xs ≡ 3 → xs ≡ get_or xs 0 0 ∷ get_or xs 1 0 ∷ get_or xs 2 0 ∷ []
three_of [] len = absurd (omega (arith, len))
three_of (x ∷ []) len = absurd (omega (arith, len))
three_of (x ∷ y ∷ []) len = absurd (omega (arith, len))
three_of (x ∷ y ∷ z ∷ []) len = refl
three_of (x ∷ y ∷ z ∷ w ∷ xs) len = absurd (omega (arith, len))

low_of : (i s t : Bool) (q l h : ℕ)
    → (i && (s && ((leb (l + 1) q && ltb q h) && t))) ≡ ((i && (s && ((leb l q && ltb q h) && t))) && ltb l q)
low_of i s t q l h = grind (arith, nat_tests)

first_low_of : (i t : Bool) (q l h : ℕ)
    → (i && ((leb (l + 1) q && ltb q h) && t)) ≡ ((i && ((leb l q && ltb q h) && t)) && ltb l q)
first_low_of i t q l h = grind (arith, nat_tests)

last_low_of : (i s t : Bool) (q l h : ℕ)
    → (i && (s && (t && (leb (l + 1) q && ltb q h)))) ≡ ((i && (s && (t && (leb l q && ltb q h)))) && ltb l q)
last_low_of i s t q l h = grind (arith, nat_tests)

-- the box without its lowest layer on an axis
pub above_in : (a : Axes) (lo hi : List ℕ) (axis v : ℕ) → axis < 3 → length lo ≡ 3
    → in_box a (above_lowest lo axis) hi v ≡ (in_box a lo hi v && ltb (get_or lo axis 0) (coordinate a v axis))
above_in a lo hi axis v below len =
    let P : List ℕ → Type 0 = λ ls. in_box a (above_lowest ls axis) hi v ≡ (in_box a ls hi v && ltb (get_or ls axis 0) (coordinate a v axis)) in
    subst P (sym (three_of lo len)) (step (get_or lo 0 0) (get_or lo 1 0) (get_or lo 2 0))
  where
    step : (x y z : ℕ) → in_box a (above_lowest (x ∷ y ∷ z ∷ []) axis) hi v
        ≡ (in_box a (x ∷ y ∷ z ∷ []) hi v && ltb (get_or (x ∷ y ∷ z ∷ []) axis 0) (coordinate a v axis))
    step x y z =
        let lo : List ℕ = x ∷ y ∷ z ∷ [] in
        let i = ltb v (voxel_count a) in
        each_axis (λ k. in_box a (above_lowest lo k) hi v ≡ (in_box a lo hi v && ltb (get_or lo k 0) (coordinate a v k))) axis below
        (first_low_of i (in_span a lo hi v 1 && in_span a lo hi v 2) (coordinate a v 0) x (get_or hi 0 0))
        (low_of i (in_span a lo hi v 0) (in_span a lo hi v 2) (coordinate a v 1) y (get_or hi 1 0))
        (last_low_of i (in_span a lo hi v 0) (in_span a lo hi v 1) (coordinate a v 2) z (get_or hi 2 0))

lowest_of : (i s t : Bool) (q l h : ℕ) → l < h
    → (i && (s && ((leb l q && ltb q (l + 1)) && t))) ≡ ((i && (s && ((leb l q && ltb q h) && t))) && eqb q l)
lowest_of i s t q l h some = grind (arith, nat_tests)

first_lowest_of : (i t : Bool) (q l h : ℕ) → l < h
    → (i && ((leb l q && ltb q (l + 1)) && t)) ≡ ((i && ((leb l q && ltb q h) && t)) && eqb q l)
first_lowest_of i t q l h some = grind (arith, nat_tests)

last_lowest_of : (i s t : Bool) (q l h : ℕ) → l < h
    → (i && (s && (t && (leb l q && ltb q (l + 1))))) ≡ ((i && (s && (t && (leb l q && ltb q h)))) && eqb q l)
last_lowest_of i s t q l h some = grind (arith, nat_tests)

-- its lowest layer
pub lowest_in : (a : Axes) (lo hi : List ℕ) (axis v : ℕ) → axis < 3 → length hi ≡ 3 → get_or lo axis 0 < get_or hi axis 0
    → in_box a lo (lowest_to lo hi axis) v ≡ (in_box a lo hi v && eqb (coordinate a v axis) (get_or lo axis 0))
lowest_in a lo hi axis v below len =
    let P : List ℕ → Type 0 = λ hs. get_or lo axis 0 < get_or hs axis 0
    → in_box a lo (lowest_to lo hs axis) v ≡ (in_box a lo hs v && eqb (coordinate a v axis) (get_or lo axis 0)) in
    subst P (sym (three_of hi len)) (step (get_or hi 0 0) (get_or hi 1 0) (get_or hi 2 0))
  where
    step : (x y z : ℕ) → get_or lo axis 0 < get_or (x ∷ y ∷ z ∷ []) axis 0
        → in_box a lo (lowest_to lo (x ∷ y ∷ z ∷ []) axis) v
        ≡ (in_box a lo (x ∷ y ∷ z ∷ []) v && eqb (coordinate a v axis) (get_or lo axis 0))
    step x y z =
        let hi : List ℕ = x ∷ y ∷ z ∷ [] in
        let i = ltb v (voxel_count a) in
        each_axis (λ k. get_or lo k 0 < get_or hi k 0
        → in_box a lo (lowest_to lo hi k) v ≡ (in_box a lo hi v && eqb (coordinate a v k) (get_or lo k 0))) axis below
        (λ some. first_lowest_of i (in_span a lo hi v 1 && in_span a lo hi v 2) (coordinate a v 0) (get_or lo 0 0) x some)
        (λ some. lowest_of i (in_span a lo hi v 0) (in_span a lo hi v 2) (coordinate a v 1) (get_or lo 1 0) y some)
        (λ some. last_lowest_of i (in_span a lo hi v 0) (in_span a lo hi v 1) (coordinate a v 2) (get_or lo 2 0) z some)

highest_of : (i s t : Bool) (q l h : ℕ) → l < h
    → (i && (s && ((leb (h - 1) q && ltb q h) && t))) ≡ ((i && (s && ((leb l q && ltb q h) && t))) && eqb (q + 1) h)
highest_of i s t q l h some = grind (arith, nat_tests)

first_highest_of : (i t : Bool) (q l h : ℕ) → l < h
    → (i && ((leb (h - 1) q && ltb q h) && t)) ≡ ((i && ((leb l q && ltb q h) && t)) && eqb (q + 1) h)
first_highest_of i t q l h some = grind (arith, nat_tests)

last_highest_of : (i s t : Bool) (q l h : ℕ) → l < h
    → (i && (s && (t && (leb (h - 1) q && ltb q h)))) ≡ ((i && (s && (t && (leb l q && ltb q h)))) && eqb (q + 1) h)
last_highest_of i s t q l h some = grind (arith, nat_tests)

-- its highest layer
pub highest_in : (a : Axes) (lo hi : List ℕ) (axis v : ℕ) → axis < 3 → length lo ≡ 3 → get_or lo axis 0 < get_or hi axis 0
    → in_box a (highest_from lo hi axis) hi v ≡ (in_box a lo hi v && eqb (coordinate a v axis + 1) (get_or hi axis 0))
highest_in a lo hi axis v below len =
    let P : List ℕ → Type 0 = λ ls. get_or ls axis 0 < get_or hi axis 0
    → in_box a (highest_from ls hi axis) hi v ≡ (in_box a ls hi v && eqb (coordinate a v axis + 1) (get_or hi axis 0)) in
    subst P (sym (three_of lo len)) (step (get_or lo 0 0) (get_or lo 1 0) (get_or lo 2 0))
  where
    step : (x y z : ℕ) → get_or (x ∷ y ∷ z ∷ []) axis 0 < get_or hi axis 0
        → in_box a (highest_from (x ∷ y ∷ z ∷ []) hi axis) hi v
        ≡ (in_box a (x ∷ y ∷ z ∷ []) hi v && eqb (coordinate a v axis + 1) (get_or hi axis 0))
    step x y z =
        let lo : List ℕ = x ∷ y ∷ z ∷ [] in
        let i = ltb v (voxel_count a) in
        each_axis (λ k. get_or lo k 0 < get_or hi k 0
        → in_box a (highest_from lo hi k) hi v ≡ (in_box a lo hi v && eqb (coordinate a v k + 1) (get_or hi k 0))) axis below
        (λ some. first_highest_of i (in_span a lo hi v 1 && in_span a lo hi v 2) (coordinate a v 0) x (get_or hi 0 0) some)
        (λ some. highest_of i (in_span a lo hi v 0) (in_span a lo hi v 2) (coordinate a v 1) y (get_or hi 1 0) some)
        (λ some. last_highest_of i (in_span a lo hi v 0) (in_span a lo hi v 1) (coordinate a v 2) z (get_or hi 2 0) some)

-- the box without its lowest layer is a box
pub above_box : (a : Axes) (lo hi : List ℕ) (axis : ℕ) → axis < 3 → length lo ≡ 3 → IsSomeBox a lo hi
    → IsBox a (above_lowest lo axis) hi
above_box a lo hi axis below len box =
    let P : List ℕ → Type 0 = λ ls. IsBox a ls hi → get_or ls axis 0 < get_or hi axis 0 → IsBox a (above_lowest ls axis) hi in
    subst P (sym (three_of lo len)) (step (get_or lo 0 0) (get_or lo 1 0) (get_or lo 2 0)) (some_box a lo hi box) (box.some axis below)
  where
    step : (x y z : ℕ) → IsBox a (x ∷ y ∷ z ∷ []) hi → get_or (x ∷ y ∷ z ∷ []) axis 0 < get_or hi axis 0
        → IsBox a (above_lowest (x ∷ y ∷ z ∷ []) axis) hi
    step x y z = each_axis (λ k. IsBox a (x ∷ y ∷ z ∷ []) hi → get_or (x ∷ y ∷ z ∷ []) k 0 < get_or hi k 0
        → IsBox a (above_lowest (x ∷ y ∷ z ∷ []) k) hi) axis below
        (λ box some. record {
          from_x = omega (arith, some);
          from_y = box.from_y;
          from_z = box.from_z;
          most_x = box.most_x;
          most_y = box.most_y;
          most_z = box.most_z;
        })
        (λ box some. record {
          from_x = box.from_x;
          from_y = omega (arith, some);
          from_z = box.from_z;
          most_x = box.most_x;
          most_y = box.most_y;
          most_z = box.most_z;
        })
        (λ box some. record {
          from_x = box.from_x;
          from_y = box.from_y;
          from_z = omega (arith, some);
          most_x = box.most_x;
          most_y = box.most_y;
          most_z = box.most_z;
        })
