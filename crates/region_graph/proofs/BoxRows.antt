-- A box gone over row by row: the contacts and the names of the rows so far.
use Rattle.std.proofs.Common.{◌≡◌, ℕ, ◌+◌, ◌*◌, ◌-◌, ◌/◌, ◌%◌, ◌<◌, ◌≤◌, Bool, ◌&&◌, ◌||◌, eqb, List, get_or, sym, ap, ◌∙◌, subst, arith}
use Rattle.std.proofs.Math.Nat.{mul-le-mul_left}
use Rattle.std.proofs.Math.Bool.{and-or_distrib_left}
use Rattle.std.proofs.lemmas.Bool.{and_right}
use Rattle.agglo_model.specs.Axes.{Axes, IsWithinLimits, IsPlace, voxel_count, voxel_at, coordinate}
use Rattle.agglo_model.specs.Cell.{IsInBox}
use Rattle.agglo_model.specs.Grid.{Grid}
use Rattle.agglo_model.specs.Contacts.{joins}
use Rattle.agglo_model.specs.RegionGraph.{GraphEdge, Region}
use Rattle.agglo_model.proofs.Edges.{each_axis}
use Rattle.agglo_model.proofs.Places.{voxel_at-lt}
use Rattle.agglo_model.proofs.Tests.{both_apart}
use Rattle.region_graph.specs.Lists.{count_of}
use Rattle.region_graph.specs.Boxes.{GainsContacts, GainsNames, IsBox, ends_among, in_box, volume_of}
use Rattle.region_graph.proofs.VoxelTests.{is_seen, in_row, in_box-is, row_inside, seen_none, seen_first, seen_layer, seen_all, seen_more, seen_apart}
use Rattle.region_graph.proofs.ContactGains.{gains-nothing, gains-both, gains-same}
use Rattle.region_graph.proofs.NameGains.{names-nothing, names-both, names-test}

-- ---- rows of a box in the volume

-- a row at this place of the box
pub record IsRow (lo hi : List ℕ) (y z : ℕ) : Type 0 where
  pub y_low : get_or lo 1 0 ≤ y
  pub y_high : y < get_or hi 1 0
  pub z_low : get_or lo 2 0 ≤ z
  pub z_high : z < get_or hi 2 0

-- a whole row of the volume ends in the volume
pub row_fits : (a : Axes) (lo hi : List ℕ) (y z : ℕ) → IsWithinLimits a → IsBox a lo hi → IsRow lo hi y z
    → voxel_at a 0 y z + a.nx ≤ voxel_count a
row_fits a lo hi y z limits box row =
    let place : IsPlace a (a.nx - 1) y z = record {
      in_x = omega (arith, limits.some_x);
      in_y = omega (arith, row.y_high, box.most_y);
      in_z = omega (arith, row.z_high, box.most_z);
    } in
    let below = voxel_at-lt a (a.nx - 1) y z place in
    omega (arith, below, limits.some_x)

low_on : (a : Axes) (lo hi : List ℕ) (v axis : ℕ) → axis < 3 → IsInBox a lo hi v → get_or lo axis 0 ≤ coordinate a v axis
low_on a lo hi v axis below inside = each_axis (λ c. get_or lo c 0 ≤ coordinate a v c) axis below inside.from_x inside.from_y inside.from_z

-- no voxel of a row lies at the low border on an axis where the box does not begin there
pub row_inner : (a : Axes) (lo hi : List ℕ) (y z axis v : ℕ) → IsBox a lo hi → IsRow lo hi y z → axis < 3 → 0 < get_or lo axis 0
    → voxel_at a 0 y z + get_or lo 0 0 ≤ v → v < voxel_at a 0 y z + get_or hi 0 0 → 0 < coordinate a v axis
row_inner a lo hi y z axis v box row below some from to =
    let inside = row_inside a lo hi y z v box row.y_low row.y_high row.z_low row.z_high from to in
    let low = low_on a lo hi v axis below (in_box-is a lo hi v inside) in
    omega arith

-- ---- contacts

-- the voxels of the rows before the one at y and z
abbrev pub seen_count : List ℕ → List ℕ → ℕ → ℕ → ℕ
seen_count lo hi y z = (get_or hi 0 0 - get_or lo 0 0) * ((y - get_or lo 1 0) + (get_or hi 1 0 - get_or lo 1 0) * (z - get_or lo 2 0))

-- the contacts of the box's rows before the one at y and z were gained, at most one edge of the grid for each voxel
pub record AreRowsSummed (g : Grid) (labels : List ℕ) (axis : ℕ) (lo hi : List ℕ) (y z : ℕ) (before now : List GraphEdge) : Type 0 where
  pub gains : GainsContacts g labels (ends_among axis (is_seen g.axes lo hi y z)) before now
  pub count : count_of now ≤ count_of before + seen_count lo hi y z

ends_of : (axis : ℕ) (p q : ℕ → Bool) (e : ℕ) → ((v : ℕ) → p v ≡ q v) → ends_among axis p e ≡ ends_among axis q e
ends_of axis p q e same = ap (λ b. eqb (e % 3) axis && b) (same (e / 3))

pub rows-none : (g : Grid) (labels : List ℕ) (axis : ℕ) (lo hi : List ℕ) (es : List GraphEdge)
    → AreRowsSummed g labels axis lo hi 0 (get_or lo 2 0) es es
rows-none g labels axis lo hi es = record {
  gains = gains-nothing g labels (ends_among axis (is_seen g.axes lo hi 0 (get_or lo 2 0))) es
      (λ x y e. and_right (joins g labels x y e) _ (and_right (eqb (e % 3) axis) _ (seen_none g.axes lo hi (e / 3))));
  count = omega arith;
}

same_rows : (g : Grid) (labels : List ℕ) (axis : ℕ) (p q : ℕ → Bool) (es fs : List GraphEdge) → ((v : ℕ) → p v ≡ q v)
    → GainsContacts g labels (ends_among axis p) es fs → GainsContacts g labels (ends_among axis q) es fs
same_rows g labels axis p q es fs same gained =
    gains-same g labels (ends_among axis p) (ends_among axis q) es fs (λ e _. ends_of axis p q e same) gained

pub rows-first : (g : Grid) (labels : List ℕ) (axis : ℕ) (lo hi : List ℕ) (z : ℕ) (es fs : List GraphEdge)
    → AreRowsSummed g labels axis lo hi 0 z es fs → AreRowsSummed g labels axis lo hi (get_or lo 1 0) z es fs
rows-first g labels axis lo hi z es fs so_far = record {
  gains = same_rows g labels axis (is_seen g.axes lo hi 0 z) (is_seen g.axes lo hi (get_or lo 1 0) z) es fs
      (seen_first g.axes lo hi z) so_far.gains;
  count =
      let none : get_or lo 1 0 - get_or lo 1 0 ≡ 0 - get_or lo 1 0 = omega arith in
      let w = get_or hi 0 0 - get_or lo 0 0 in
      let layers = (get_or hi 1 0 - get_or lo 1 0) * (z - get_or lo 2 0) in
      subst (λ n. count_of fs ≤ count_of es + w * (n + layers)) (sym none) so_far.count;
}

row_more : (w y m : ℕ) → w * (y + m) + w ≡ w * ((y + 1) + m)
row_more w y m = omega arith

-- one row more
pub rows-more : (g : Grid) (labels : List ℕ) (axis : ℕ) (lo hi : List ℕ) (y z : ℕ) (es fs gs : List GraphEdge)
    → IsBox g.axes lo hi → IsRow lo hi y z → AreRowsSummed g labels axis lo hi y z es fs
    → GainsContacts g labels (ends_among axis (in_row g.axes lo hi y z)) fs gs
    → count_of gs ≤ count_of fs + ((voxel_at g.axes 0 y z + get_or hi 0 0) - (voxel_at g.axes 0 y z + get_or lo 0 0))
    → AreRowsSummed g labels axis lo hi (y + 1) z es gs
rows-more g labels axis lo hi y z es fs gs box row so_far gained count =
    let p = is_seen g.axes lo hi y z in
    let q = in_row g.axes lo hi y z in
    record {
      gains = gains-same g labels (λ e. ends_among axis p e || ends_among axis q e) (ends_among axis (is_seen g.axes lo hi (y + 1) z)) es gs
          (λ e _. sym (and-or_distrib_left (eqb (e % 3) axis) (p (e / 3)) (q (e / 3)))
          ∙ ap (λ b. eqb (e % 3) axis && b) (seen_more g.axes lo hi y z (e / 3) box row.y_low row.y_high row.z_low row.z_high))
          (gains-both g labels (ends_among axis p) (ends_among axis q) es fs gs
          (λ e. both_apart (eqb (e % 3) axis) (p (e / 3)) (q (e / 3))
          (seen_apart g.axes lo hi y z (e / 3) box row.y_low row.y_high row.z_low row.z_high)) so_far.gains gained);
      count =
          let w = get_or hi 0 0 - get_or lo 0 0 in
          let layers = (get_or hi 1 0 - get_or lo 1 0) * (z - get_or lo 2 0) in
          let next : (y + 1) - get_or lo 1 0 ≡ (y - get_or lo 1 0) + 1 = omega (arith, row.y_low) in
          let more = row_more w (y - get_or lo 1 0) layers in
          let so_many = so_far.count in
          subst (λ n. count_of gs ≤ count_of es + w * (n + layers)) (sym next) (omega (arith, so_many, more, count));
    }

row_room : (w h d y z : ℕ) → y < h → z < d → w * (y + h * z) + w ≤ w * (h * d)
row_room w h d y z row layer =
    let rows : h * (z + 1) ≤ h * d = mul-le-mul_left h (omega arith) in
    let all : w * ((y + h * z) + 1) ≤ w * (h * d) = mul-le-mul_left w (omega (arith, rows)) in
    omega (arith, all)

-- there is room for the next row
pub rows-room : (g : Grid) (labels : List ℕ) (axis : ℕ) (lo hi : List ℕ) (y z first most : ℕ) (es fs : List GraphEdge)
    → IsRow lo hi y z → AreRowsSummed g labels axis lo hi y z es fs → count_of es + volume_of lo hi ≤ most
    → count_of fs + ((first + get_or hi 0 0) - (first + get_or lo 0 0)) ≤ most
rows-room g labels axis lo hi y z first most es fs row so_far room =
    let less = row_room (get_or hi 0 0 - get_or lo 0 0) (get_or hi 1 0 - get_or lo 1 0) (get_or hi 2 0 - get_or lo 2 0)
    (y - get_or lo 1 0) (z - get_or lo 2 0) (omega (arith, row.y_low, row.y_high)) (omega (arith, row.z_low, row.z_high)) in
    let so_many = so_far.count in
    omega (arith, less, so_many, room)

next_layer : (w h z : ℕ) → w * (h + h * z) ≡ w * (0 + h * (z + 1))
next_layer w h z = omega arith

-- one layer more
pub rows-layer : (g : Grid) (labels : List ℕ) (axis : ℕ) (lo hi : List ℕ) (z : ℕ) (es fs : List GraphEdge) → get_or lo 2 0 ≤ z
    → AreRowsSummed g labels axis lo hi (get_or hi 1 0) z es fs → AreRowsSummed g labels axis lo hi 0 (z + 1) es fs
rows-layer g labels axis lo hi z es fs low so_far = record {
  gains = same_rows g labels axis (is_seen g.axes lo hi (get_or hi 1 0) z) (is_seen g.axes lo hi 0 (z + 1)) es fs
      (seen_layer g.axes lo hi z) so_far.gains;
  count =
      let w = get_or hi 0 0 - get_or lo 0 0 in
      let h = get_or hi 1 0 - get_or lo 1 0 in
      let before : 0 - get_or lo 1 0 ≡ 0 = omega arith in
      let next : (z + 1) - get_or lo 2 0 ≡ (z - get_or lo 2 0) + 1 = omega (arith, low) in
      let more = next_layer w h (z - get_or lo 2 0) ∙ (λ i. w * (sym before i + h * sym next i)) in
      subst (λ n. count_of fs ≤ count_of es + n) more so_far.count;
}

-- all rows
pub rows-gained : (g : Grid) (labels : List ℕ) (axis : ℕ) (lo hi : List ℕ) (es fs : List GraphEdge)
    → AreRowsSummed g labels axis lo hi 0 (get_or hi 2 0) es fs
    → GainsContacts g labels (ends_among axis (in_box g.axes lo hi)) es fs
rows-gained g labels axis lo hi es fs all =
    same_rows g labels axis (is_seen g.axes lo hi 0 (get_or hi 2 0)) (in_box g.axes lo hi) es fs (seen_all g.axes lo hi) all.gains

pub rows-count : (g : Grid) (labels : List ℕ) (axis : ℕ) (lo hi : List ℕ) (es fs : List GraphEdge)
    → AreRowsSummed g labels axis lo hi 0 (get_or hi 2 0) es fs → count_of fs ≤ count_of es + volume_of lo hi
rows-count g labels axis lo hi es fs all =
    let before : 0 - get_or lo 1 0 ≡ 0 = omega arith in
    let w = get_or hi 0 0 - get_or lo 0 0 in
    let layers = (get_or hi 1 0 - get_or lo 1 0) * (get_or hi 2 0 - get_or lo 2 0) in
    let less : count_of fs ≤ count_of es + w * (0 + layers) = subst (λ n. count_of fs ≤ count_of es + w * (n + layers)) before all.count in
    let same : w * (0 + layers) ≡ w * layers = omega arith in
    subst (λ n. count_of fs ≤ count_of es + n) same less

-- ---- names

-- the names of the box's rows before the one at y and z were gained
abbrev pub AreRowsNamed : Axes → List ℕ → ℕ → List ℕ → List ℕ → ℕ → ℕ → List Region → List Region → Type 0
AreRowsNamed a labels faces lo hi y z before now = GainsNames a labels (is_seen a lo hi y z) faces before now

pub named-none : (a : Axes) (labels : List ℕ) (faces : ℕ) (lo hi : List ℕ) (es : List Region)
    → AreRowsNamed a labels faces lo hi 0 (get_or lo 2 0) es es
named-none a labels faces lo hi es =
    names-nothing a labels (is_seen a lo hi 0 (get_or lo 2 0)) faces es (seen_none a lo hi)

pub named-first : (a : Axes) (labels : List ℕ) (faces : ℕ) (lo hi : List ℕ) (z : ℕ) (es fs : List Region)
    → AreRowsNamed a labels faces lo hi 0 z es fs → AreRowsNamed a labels faces lo hi (get_or lo 1 0) z es fs
named-first a labels faces lo hi z es fs so_far =
    names-test a labels (is_seen a lo hi 0 z) (is_seen a lo hi (get_or lo 1 0) z) faces es fs (seen_first a lo hi z) so_far

pub named-more : (a : Axes) (labels : List ℕ) (faces : ℕ) (lo hi : List ℕ) (y z : ℕ) (es fs gs : List Region)
    → IsBox a lo hi → IsRow lo hi y z → AreRowsNamed a labels faces lo hi y z es fs
    → GainsNames a labels (in_row a lo hi y z) faces fs gs → AreRowsNamed a labels faces lo hi (y + 1) z es gs
named-more a labels faces lo hi y z es fs gs box row so_far gained =
    let p = is_seen a lo hi y z in
    let q = in_row a lo hi y z in
    names-test a labels (λ v. p v || q v) (is_seen a lo hi (y + 1) z) faces es gs
    (λ v. seen_more a lo hi y z v box row.y_low row.y_high row.z_low row.z_high)
    (names-both a labels p q faces es fs gs so_far gained)

pub named-layer : (a : Axes) (labels : List ℕ) (faces : ℕ) (lo hi : List ℕ) (z : ℕ) (es fs : List Region)
    → AreRowsNamed a labels faces lo hi (get_or hi 1 0) z es fs → AreRowsNamed a labels faces lo hi 0 (z + 1) es fs
named-layer a labels faces lo hi z es fs so_far =
    names-test a labels (is_seen a lo hi (get_or hi 1 0) z) (is_seen a lo hi 0 (z + 1)) faces es fs (seen_layer a lo hi z) so_far

pub named-gained : (a : Axes) (labels : List ℕ) (faces : ℕ) (lo hi : List ℕ) (es fs : List Region)
    → AreRowsNamed a labels faces lo hi 0 (get_or hi 2 0) es fs → GainsNames a labels (in_box a lo hi) faces es fs
named-gained a labels faces lo hi es fs all =
    names-test a labels (is_seen a lo hi 0 (get_or hi 2 0)) (in_box a lo hi) faces es fs (seen_all a lo hi) all
