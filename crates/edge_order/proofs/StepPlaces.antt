-- Steps from place to place, in a volume and in a box of it.
use Rattle.std.proofs.Common.{◌≡◌, ℕ, ◌+◌, ◌*◌, ◌-◌, ◌<◌, ◌≤◌, true, false, nat_lt, List, get_or, refl, sym, ◌∙◌, ap, subst, arith, lit<, ltb-true, ltb-false}
use Rattle.std.proofs.lemmas.Bool.Decides.{nat_tests}
use Rattle.agglo_model.specs.Axes.{Axes, IsWithinLimits, IsPlace, voxel_count, voxel_at, coordinate}
use Rattle.agglo_model.specs.Boxes.{IsBoxOf, box_grid, box_voxel}
use Rattle.agglo_model.specs.Cell.{IsInBox}
use Rattle.agglo_model.specs.Grid.{Grid}
use Rattle.agglo_model.proofs.Places.{voxel_at-lt, place-voxel, voxel_at-place, coordinate-voxel_at_x, coordinate-voxel_at_y, coordinate-voxel_at_z}
use Rattle.agglo_model.proofs.BoxPlaces.{IsBoxPlace, box_voxel-place, box_voxel-x, box_voxel-y, box_voxel-z}
use Rattle.edge_order.specs.Steps.{IsBestStep, LeadsTo, leads_within, steps_within}
use Rattle.edge_order.proofs.Tracks.{edge_back_x, edge_back_at, edge_on_x, edge_on_y, edge_on_z}
use Rattle.edge_order.specs.declared.step.Step.{Step}
use Rattle.edge_order.specs.declared.step.Step.TheVariants.{Stay, BackX, BackY, BackZ, OnX, OnY, OnZ}

-- the place to which a step leads, one coordinate at a time
abbrev step_x : Step → ℕ → ℕ
step_x BackX x = x - 1
step_x OnX x = x + 1
step_x _ x = x

abbrev step_y : Step → ℕ → ℕ
step_y BackY y = y - 1
step_y OnY y = y + 1
step_y _ y = y

abbrev step_z : Step → ℕ → ℕ
step_z BackZ z = z - 1
step_z OnZ z = z + 1
step_z _ z = z

-- whether a step leads within the grid, by the place of the voxel
pub leads_at_place : (a : Axes) (x y z : ℕ) (s : Step) → IsPlace a x y z
    → leads_within a (voxel_at a x y z) s ≡ steps_within a x y z s
leads_at_place a x y z s p = λ k. steps_within a
    (coordinate-voxel_at_x a x y z p k) (coordinate-voxel_at_y a x y z p k) (coordinate-voxel_at_z a x y z p k) s

lands : (a : Axes) (x y z : ℕ) (s : Step) → IsPlace a x y z → steps_within a x y z s ≡ true
    → IsPlace a (step_x s x) (step_y s y) (step_z s z)
lands a x y z Stay p t = p
lands a x y z BackX p t = record { in_x = omega (arith, p.in_x); in_y = p.in_y; in_z = p.in_z }
lands a x y z BackY p t = record { in_x = p.in_x; in_y = omega (arith, p.in_y); in_z = p.in_z }
lands a x y z BackZ p t = record { in_x = p.in_x; in_y = p.in_y; in_z = omega (arith, p.in_z) }
lands a x y z OnX p t = record { in_x = ltb-true (x + 1) a.nx t; in_y = p.in_y; in_z = p.in_z }
lands a x y z OnY p t = record { in_x = p.in_x; in_y = ltb-true (y + 1) a.ny t; in_z = p.in_z }
lands a x y z OnZ p t = record { in_x = p.in_x; in_y = p.in_y; in_z = ltb-true (z + 1) a.nz t }

row_back : (a : Axes) (x y y' z : ℕ) → y' + 1 ≡ y → voxel_at a x y' z + a.nx ≡ voxel_at a x y z
row_back a x y y' z is = subst (λ r. voxel_at a x y' z + a.nx ≡ voxel_at a x r z) is (omega arith)

layer_back : (a : Axes) (x y z z' : ℕ) → z' + 1 ≡ z → voxel_at a x y z' + a.nx * a.ny ≡ voxel_at a x y z
layer_back a x y z z' is = subst (λ r. voxel_at a x y z' + a.nx * a.ny ≡ voxel_at a x y r) is (omega arith)

less_one : (n : ℕ) → nat_lt 0 n ≡ true → n - 1 + 1 ≡ n
less_one n t = let h : 0 < n = ltb-true 0 n t in omega arith

leads : (a : Axes) (x y z : ℕ) (s : Step) → steps_within a x y z s ≡ true
    → LeadsTo a (voxel_at a x y z) s (voxel_at a (step_x s x) (step_y s y) (step_z s z))
leads a x y z Stay t = refl
leads a x y z BackX t = let h = less_one x t in omega arith
leads a x y z BackY t = row_back a x y (y - 1) z (less_one y t)
leads a x y z BackZ t = layer_back a x y z (z - 1) (less_one z t)
leads a x y z OnX t = omega arith
leads a x y z OnY t = omega arith
leads a x y z OnZ t = omega arith

-- a step leads to one voxel
pub same_end : (a : Axes) (v w u : ℕ) (s : Step) → LeadsTo a v s w → LeadsTo a v s u → w ≡ u
same_end a v w u Stay p q = omega arith
same_end a v w u BackX p q = omega arith
same_end a v w u BackY p q = omega arith
same_end a v w u BackZ p q = omega arith
same_end a v w u OnX p q = omega arith
same_end a v w u OnY p q = omega arith
same_end a v w u OnZ p q = omega arith

-- the voxel to which a step within the grid leads
pub record HasEnd (a : Axes) (v : ℕ) (s : Step) (w : ℕ) : Type 0 where
  pub leads : LeadsTo a v s w
  pub voxel : w < voxel_count a

abbrev end_at : Axes → ℕ → Step → ℕ
end_at a v s = voxel_at a (step_x s (coordinate a v 0)) (step_y s (coordinate a v 1)) (step_z s (coordinate a v 2))

pub far_voxel : (a : Axes) (v : ℕ) (s : Step) → IsWithinLimits a → v < voxel_count a → leads_within a v s ≡ true
    → (w : ℕ) × HasEnd a v s w
far_voxel a v s limits below t =
    let at : steps_within a (coordinate a v 0) (coordinate a v 1) (coordinate a v 2) s ≡ true = t in (
      end_at a v s,
      record {
        leads = subst (λ u. LeadsTo a u s (end_at a v s)) (voxel_at-place a v)
            (leads a (coordinate a v 0) (coordinate a v 1) (coordinate a v 2) s at);
        voxel = voxel_at-lt a _ _ _ (lands a (coordinate a v 0) (coordinate a v 1) (coordinate a v 2) s (place-voxel a v limits below) at);
      },
    )

-- the best step of a voxel leads to a voxel of the volume
pub best_within : (g : Grid) (low v : ℕ) (s : Step) → IsWithinLimits g.axes → v < voxel_count g.axes
    → IsBestStep g low v s → leads_within g.axes v s ≡ true
best_within g low v Stay limits below best = refl
best_within g low v BackX limits below best = sym (edge_back_x g.axes v below) ∙ best.strong.edge
best_within g low v BackY limits below best = sym (edge_back_at g.axes v 1 below (lit< tt)) ∙ best.strong.edge
best_within g low v BackZ limits below best = sym (edge_back_at g.axes v 2 below (lit< tt)) ∙ best.strong.edge
best_within g low v OnX limits below best = sym (edge_on_x g.axes v limits below) ∙ best.strong.edge
best_within g low v OnY limits below best = sym (edge_on_y g.axes v limits below) ∙ best.strong.edge
best_within g low v OnZ limits below best = sym (edge_on_z g.axes v limits below) ∙ best.strong.edge

-- ---- in a box

-- a step within a box is a step within the volume
more_lt : (k x y : ℕ) → x < y - k → k + x < y
more_lt k x y lt = omega arith

wider : (a : Axes) (lo hi : List ℕ) (x y z : ℕ) (s : Step) → IsBoxOf a lo hi → steps_within (box_grid lo hi) x y z s ≡ true
    → steps_within a (get_or lo 0 0 + x) (get_or lo 1 0 + y) (get_or lo 2 0 + z) s ≡ true
wider a lo hi x y z Stay box t = refl
wider a lo hi x y z BackX box t = grind (arith, nat_tests)
wider a lo hi x y z BackY box t = grind (arith, nat_tests)
wider a lo hi x y z BackZ box t = grind (arith, nat_tests)
wider a lo hi x y z OnX box t = let m = box.most_x in grind (arith, nat_tests)
wider a lo hi x y z OnY box t = let m = box.most_y in grind (arith, nat_tests)
wider a lo hi x y z OnZ box t = let m = box.most_z in grind (arith, nat_tests)

shift_back : (k n : ℕ) → nat_lt 0 n ≡ true → k + (n - 1) ≡ k + n - 1
shift_back k n t = let h = less_one n t in omega arith

shift_x : (a : Axes) (x y z k : ℕ) (s : Step) → steps_within a x y z s ≡ true → k + step_x s x ≡ step_x s (k + x)
shift_x a x y z k Stay t = refl
shift_x a x y z k BackX t = shift_back k x t
shift_x a x y z k BackY t = refl
shift_x a x y z k BackZ t = refl
shift_x a x y z k OnX t = omega arith
shift_x a x y z k OnY t = refl
shift_x a x y z k OnZ t = refl

shift_y : (a : Axes) (x y z k : ℕ) (s : Step) → steps_within a x y z s ≡ true → k + step_y s y ≡ step_y s (k + y)
shift_y a x y z k Stay t = refl
shift_y a x y z k BackX t = refl
shift_y a x y z k BackY t = shift_back k y t
shift_y a x y z k BackZ t = refl
shift_y a x y z k OnX t = refl
shift_y a x y z k OnY t = omega arith
shift_y a x y z k OnZ t = refl

shift_z : (a : Axes) (x y z k : ℕ) (s : Step) → steps_within a x y z s ≡ true → k + step_z s z ≡ step_z s (k + z)
shift_z a x y z k Stay t = refl
shift_z a x y z k BackX t = refl
shift_z a x y z k BackY t = refl
shift_z a x y z k BackZ t = shift_back k z t
shift_z a x y z k OnX t = refl
shift_z a x y z k OnY t = refl
shift_z a x y z k OnZ t = omega arith

-- a step from voxel to voxel of a box is that step in the volume
pub box_leads : (a : Axes) (lo hi : List ℕ) (i j : ℕ) (s : Step) → IsBoxOf a lo hi → IsBoxPlace a lo hi i
    → leads_within (box_grid lo hi) i s ≡ true → LeadsTo (box_grid lo hi) i s j
    → LeadsTo a (box_voxel a lo hi i) s (box_voxel a lo hi j)
box_leads a lo hi i j s box at t to =
    let b : Axes = box_grid lo hi in
    let x = coordinate b i 0 in
    let y = coordinate b i 1 in
    let z = coordinate b i 2 in
    let inside : steps_within b x y z s ≡ true = t in
    let end : voxel_at b (step_x s x) (step_y s y) (step_z s z) ≡ j =
    same_end b i _ j s (subst (λ u. LeadsTo b u s (voxel_at b (step_x s x) (step_y s y) (step_z s z))) (voxel_at-place b i) (leads b x y z s inside)) to in
    let there = sym (λ k. voxel_at a (shift_x b x y z (get_or lo 0 0) s inside k) (shift_y b x y z (get_or lo 1 0) s inside k) (shift_z b x y z (get_or lo 2 0) s inside k))
    ∙ sym (box_voxel-place a lo hi (step_x s x) (step_y s y) (step_z s z) (lands b x y z s at.own inside))
    ∙ ap (box_voxel a lo hi) end in
    subst (λ u. LeadsTo a (box_voxel a lo hi i) s u) there
    (leads a (get_or lo 0 0 + x) (get_or lo 1 0 + y) (get_or lo 2 0 + z) s (wider a lo hi x y z s box inside))

-- a step that leads out of a box, though not of the volume, leads to a voxel outside the box
first_out : (k x : ℕ) → nat_lt 0 x ≡ false → 0 < k + x → k ≤ k + x - 1 → ⊥
first_out k x t some le = let h = ltb-false 0 x t in omega arith

last_out : (k x n : ℕ) → nat_lt (x + 1) (n - k) ≡ false → k + x + 1 < n → ⊥
last_out k x n t lt = let h = ltb-false (x + 1) (n - k) t in omega arith

out_at : (a : Axes) (lo hi : List ℕ) (x y z : ℕ) (s : Step)
    → steps_within (box_grid lo hi) x y z s ≡ false
    → steps_within a (get_or lo 0 0 + x) (get_or lo 1 0 + y) (get_or lo 2 0 + z) s ≡ true
    → get_or lo 0 0 ≤ step_x s (get_or lo 0 0 + x) → step_x s (get_or lo 0 0 + x) < get_or hi 0 0
    → get_or lo 1 0 ≤ step_y s (get_or lo 1 0 + y) → step_y s (get_or lo 1 0 + y) < get_or hi 1 0
    → get_or lo 2 0 ≤ step_z s (get_or lo 2 0 + z) → step_z s (get_or lo 2 0 + z) < get_or hi 2 0
    → ⊥
out_at a lo hi x y z Stay out t fx tx fy ty fz tz = cc
out_at a lo hi x y z BackX out t fx tx fy ty fz tz = first_out (get_or lo 0 0) x out (ltb-true 0 (get_or lo 0 0 + x) t) fx
out_at a lo hi x y z BackY out t fx tx fy ty fz tz = first_out (get_or lo 1 0) y out (ltb-true 0 (get_or lo 1 0 + y) t) fy
out_at a lo hi x y z BackZ out t fx tx fy ty fz tz = first_out (get_or lo 2 0) z out (ltb-true 0 (get_or lo 2 0 + z) t) fz
out_at a lo hi x y z OnX out t fx tx fy ty fz tz = last_out (get_or lo 0 0) x (get_or hi 0 0) out tx
out_at a lo hi x y z OnY out t fx tx fy ty fz tz = last_out (get_or lo 1 0) y (get_or hi 1 0) out ty
out_at a lo hi x y z OnZ out t fx tx fy ty fz tz = last_out (get_or lo 2 0) z (get_or hi 2 0) out tz

pub leaves_box : (a : Axes) (lo hi : List ℕ) (i w : ℕ) (s : Step) → IsBoxPlace a lo hi i
    → leads_within (box_grid lo hi) i s ≡ false → leads_within a (box_voxel a lo hi i) s ≡ true
    → LeadsTo a (box_voxel a lo hi i) s w → ¬ (IsInBox a lo hi w)
leaves_box a lo hi i w s at out t to inside =
    let b : Axes = box_grid lo hi in
    let x = get_or lo 0 0 + coordinate b i 0 in
    let y = get_or lo 1 0 + coordinate b i 1 in
    let z = get_or lo 2 0 + coordinate b i 2 in
    let wide : steps_within a x y z s ≡ true =
    (λ k. steps_within a (sym (box_voxel-x a lo hi i at) k) (sym (box_voxel-y a lo hi i at) k) (sym (box_voxel-z a lo hi i at) k) s)
    ∙ t in
    let place : IsPlace a (step_x s x) (step_y s y) (step_z s z) = lands a x y z s at.place wide in
    let is : voxel_at a (step_x s x) (step_y s y) (step_z s z) ≡ w =
    same_end a (box_voxel a lo hi i) _ w s (leads a x y z s wide) to in
    let cx : coordinate a w 0 ≡ step_x s x = ap (λ u. coordinate a u 0) (sym is) ∙ coordinate-voxel_at_x a _ _ _ place in
    let cy : coordinate a w 1 ≡ step_y s y = ap (λ u. coordinate a u 1) (sym is) ∙ coordinate-voxel_at_y a _ _ _ place in
    let cz : coordinate a w 2 ≡ step_z s z = ap (λ u. coordinate a u 2) (sym is) ∙ coordinate-voxel_at_z a _ _ _ place in
    out_at a lo hi (coordinate b i 0) (coordinate b i 1) (coordinate b i 2) s (out) wide
    (subst (λ n. get_or lo 0 0 ≤ n) cx inside.from_x) (subst (λ n. n < get_or hi 0 0) cx inside.to_x)
    (subst (λ n. get_or lo 1 0 ≤ n) cy inside.from_y) (subst (λ n. n < get_or hi 1 0) cy inside.to_y)
    (subst (λ n. get_or lo 2 0 ≤ n) cz inside.from_z) (subst (λ n. n < get_or hi 2 0) cz inside.to_z)
