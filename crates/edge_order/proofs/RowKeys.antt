-- The keys of a row of voxels, and the list of best steps as it grows row by row.
use Rattle.std.proofs.Common.{◌≡◌, ℕ, ◌+◌, ◌*◌, ◌-◌, ◌<◌, ◌≤◌, ◌⊎◌, ◌&&◌, nat_le, nat_lt, min, List, [], ◌∷◌, ◌++◌, length, get_or, sym, ◌∙◌, ap, ap₂, subst, subst₂, inl, inr, arith, eq-or-lt_of_le}
use Rattle.std.proofs.lemmas.Bool.Decides.{nat_tests}
use Rattle.std.proofs.lemmas.List.{length_push, get_or_push, get_or_append_left}
use Rattle.agglo_model.specs.Axes.{Axes, IsPlace, IsWithinLimits, voxel_at, voxel_count, coordinate}
use Rattle.agglo_model.specs.Boxes.{IsBoxOf, box_grid, box_voxel}
use Rattle.agglo_model.specs.Grid.{Grid, affinity}
use Rattle.agglo_model.proofs.BoxPlaces.{box_voxel-place, whole_box, whole_grid, whole_voxel}
use Rattle.agglo_model.proofs.Places.{voxel_at-lt, coordinate-voxel_at_x, coordinate-voxel_at_y, coordinate-voxel_at_z}
use Rattle.edge_order.specs.Keys.{key, raised, step_of_key}
use Rattle.edge_order.specs.Steps.{IsBestStep, AreBestSteps, AreBoxSteps}
use Rattle.edge_order.proofs.Tracks.{best_of_six}
use Rattle.edge_order.specs.declared.step.Step.{Step}
use Rattle.edge_order.specs.declared.step.Step.TheVariants.{Stay, BackX, BackY, BackZ, OnX, OnY, OnZ}

-- a row of the grid lies within it
pub row_within : (a : Axes) (y z : ℕ) → IsWithinLimits a → y < a.ny → z < a.nz
    → a.nx * (y + a.ny * z) + a.nx ≤ voxel_count a
row_within a y z limits in_y in_z =
    let some : 0 < a.nx = limits.some_x in
    let p : IsPlace a (a.nx - 1) y z = record { in_x = omega arith; in_y = in_y; in_z = in_z } in
    let h : a.nx - 1 + a.nx * (y + a.ny * z) < voxel_count a = voxel_at-lt a (a.nx - 1) y z p in
    omega arith

first_test : (x i w : ℕ) → i < w → (nat_le (1 - x) i && nat_lt i w) ≡ nat_lt 0 (x + i)
first_test x i w lt = grind (arith, nat_tests)

last_test : (x i w n : ℕ) → i < w → x + w ≤ n → (nat_le 0 i && nat_lt i (min w (n - 1 - x))) ≡ nat_lt (x + i + 1) n
last_test x i w n lt le = grind (arith, nat_tests)

-- the six passes over a row of w voxels from the place x, y, z on, as voxel i of them sees them
pub row_best : (g : Grid) (low x i y z w l m n k1 k2 k3 k4 k5 k6 i1 i2 i3 i4 i5 i6 : ℕ)
    → IsWithinLimits g.axes → i < w → x + w ≤ g.axes.nx → IsPlace g.axes (x + i) y z
    → l ≡ g.axes.nx → m ≡ g.axes.ny → n ≡ g.axes.nz
    → i1 ≡ 3 * voxel_at g.axes (x + i) y z → i2 ≡ 3 * voxel_at g.axes (x + i) y z + 1
    → i3 ≡ 3 * voxel_at g.axes (x + i) y z + 2
    → i4 ≡ 3 * (voxel_at g.axes (x + i) y z + 1) → i5 ≡ 3 * (voxel_at g.axes (x + i) y z + g.axes.nx) + 1
    → i6 ≡ 3 * (voxel_at g.axes (x + i) y z + g.axes.nx * g.axes.ny) + 2
    → k1 ≡ raised 0 (nat_le (1 - x) i && nat_lt i w) (key (affinity g i1) BackX)
    → k2 ≡ raised k1 (nat_lt 0 y) (key (affinity g i2) BackY)
    → k3 ≡ raised k2 (nat_lt 0 z) (key (affinity g i3) BackZ)
    → k4 ≡ raised k3 (nat_le 0 i && nat_lt i (min w (l - 1 - x))) (key (affinity g i4) OnX)
    → k5 ≡ raised k4 (nat_lt (y + 1) m) (key (affinity g i5) OnY)
    → k6 ≡ raised k5 (nat_lt (z + 1) n) (key (affinity g i6) OnZ)
    → IsBestStep g low (voxel_at g.axes (x + i) y z) (step_of_key low k6)
row_best g low x i y z w l m n k1 k2 k3 k4 k5 k6 i1 i2 i3 i4 i5 i6 limits lt le p l_is m_is n_is j1 j2 j3 j4 j5 j6 e1 e2 e3 e4 e5 e6 =
    best_of_six g low v k1 k2 k3 k4 k5 k6 limits (voxel_at-lt a (x + i) y z p)
    (e1 ∙ ap₂ (λ t j. raised 0 t (key (affinity g j) BackX)) (first_test x i w lt ∙ ap (λ c. nat_lt 0 c) (sym cx)) j1)
    (e2 ∙ ap₂ (λ c j. raised k1 (nat_lt 0 c) (key (affinity g j) BackY)) (sym cy) j2)
    (e3 ∙ ap₂ (λ c j. raised k2 (nat_lt 0 c) (key (affinity g j) BackZ)) (sym cz) j3)
    (e4 ∙ ap₂ (λ t j. raised k3 t (key (affinity g j) OnX)) on_x j4)
    (e5 ∙ ap₂ (λ t j. raised k4 t (key (affinity g j) OnY)) (ap₂ (λ c d. nat_lt (c + 1) d) (sym cy) m_is) j5)
    (e6 ∙ ap₂ (λ t j. raised k5 t (key (affinity g j) OnZ)) (ap₂ (λ c d. nat_lt (c + 1) d) (sym cz) n_is) j6)
  where
    a : Axes
    a = g.axes

    v : ℕ
    v = voxel_at g.axes (x + i) y z

    cx : coordinate g.axes (voxel_at g.axes (x + i) y z) 0 ≡ x + i
    cx = coordinate-voxel_at_x g.axes (x + i) y z p

    cy : coordinate g.axes (voxel_at g.axes (x + i) y z) 1 ≡ y
    cy = coordinate-voxel_at_y g.axes (x + i) y z p

    cz : coordinate g.axes (voxel_at g.axes (x + i) y z) 2 ≡ z
    cz = coordinate-voxel_at_z g.axes (x + i) y z p

    on_x : (nat_le 0 i && nat_lt i (min w (l - 1 - x))) ≡ nat_lt (coordinate g.axes (voxel_at g.axes (x + i) y z) 0 + 1) g.axes.nx
    on_x = ap (λ k. nat_le 0 i && nat_lt i (min w (k - 1 - x))) l_is
        ∙ last_test x i w g.axes.nx lt le ∙ ap (λ c. nat_lt (c + 1) g.axes.nx) (sym cx)

-- one step more
pub best_push : (g : Grid) (low : ℕ) (lo hi : List ℕ) (i : ℕ) (steps : List Step) (s : Step)
    → AreBoxSteps g low lo hi steps → length steps ≡ i → IsBestStep g low (box_voxel g.axes lo hi i) s
    → AreBoxSteps g low lo hi (steps ++ s ∷ [])
best_push g low lo hi i steps s best len is u lt = pick (eq-or-lt_of_le (omega (arith, length_push steps s)))
  where
    pick : (u ≡ length steps) ⊎ (u < length steps)
        → IsBestStep g low (box_voxel g.axes lo hi u) (get_or (steps ++ s ∷ []) u Stay)
    pick (inl last) =
        subst (λ t. IsBestStep g low (box_voxel g.axes lo hi u) t) (sym (get_or_push steps s Stay u (sym last)))
        (subst (λ w. IsBestStep g low (box_voxel g.axes lo hi w) s) (sym len ∙ sym last) is)
    pick (inr within) =
        subst (λ t. IsBestStep g low (box_voxel g.axes lo hi u) t)
        (sym (get_or_append_left steps (s ∷ []) Stay u within)) (best u within)

-- the best step of a voxel of a box, by its place
pub best_at_place : (g : Grid) (low : ℕ) (lo hi : List ℕ) (x y z : ℕ) (s : Step) → IsPlace (box_grid lo hi) x y z
    → IsBestStep g low (voxel_at g.axes (get_or lo 0 0 + x) (get_or lo 1 0 + y) (get_or lo 2 0 + z)) s
    → IsBestStep g low (box_voxel g.axes lo hi (voxel_at (box_grid lo hi) x y z)) s
best_at_place g low lo hi x y z s p best =
    subst (λ v. IsBestStep g low v s) (sym (box_voxel-place g.axes lo hi x y z p)) best

-- the steps of the box of all voxels
pub whole_steps : (g : Grid) (low : ℕ) (lo hi : List ℕ) (steps : List Step) → lo ≡ 0 ∷ 0 ∷ 0 ∷ []
    → hi ≡ g.axes.nx ∷ g.axes.ny ∷ g.axes.nz ∷ [] → AreBoxSteps g low lo hi steps → AreBestSteps g low steps
whole_steps g low lo hi steps low_is high_is best v lt =
    subst (λ u. IsBestStep g low u (get_or steps v Stay))
    ((λ k. box_voxel g.axes (low_is k) (high_is k) v) ∙ whole_voxel g.axes v) (best v lt)

pub whole_length : (a : Axes) (lo hi : List ℕ) → lo ≡ 0 ∷ 0 ∷ 0 ∷ [] → hi ≡ a.nx ∷ a.ny ∷ a.nz ∷ []
    → voxel_count (box_grid lo hi) ≡ voxel_count a
whole_length a lo hi low_is high_is = ap voxel_count ((λ k. box_grid (low_is k) (high_is k)) ∙ whole_grid a)

pub whole_is_box : (a : Axes) (lo hi : List ℕ) → IsWithinLimits a → lo ≡ 0 ∷ 0 ∷ 0 ∷ []
    → hi ≡ a.nx ∷ a.ny ∷ a.nz ∷ [] → IsBoxOf a lo hi
whole_is_box a lo hi limits low_is high_is =
    subst₂ (λ l h. IsBoxOf a l h) (sym low_is) (sym high_is) (whole_box a limits)
