-- Blocks: the parts of a box in which it is gone over, halved on one axis after the other.
use Rattle.std.proofs.Common.{◌≡◌, ℕ, ◌+◌, ◌*◌, ◌-◌, ◌/◌, ◌%◌, ◌<◌, ◌≤◌, max, Bool, true, false, ◌&&◌, ◌||◌, eqb, ltb, leb, List, [], ◌∷◌, length, get_or, set, get_or-set_same, get_or-set_other, refl, sym, ap, ◌∙◌, subst, arith}
use Rattle.std.proofs.Math.Nat.{mul-le-mul_left, mul-le-mul_right}
use Rattle.std.proofs.Math.Bool.{and-or_distrib_left}
use Rattle.std.proofs.lemmas.Bool.{eqb-true, eq-eqb, false≢true}
use Rattle.std.proofs.lemmas.List.{length-set}
use Rattle.std.proofs.lemmas.Bool.Decides.{nat_tests}
use Rattle.agglo_model.specs.Axes.{Axes, voxel_count, coordinate}
use Rattle.agglo_model.specs.Cutting.{length_on}
use Rattle.agglo_model.specs.Grid.{Grid}
use Rattle.agglo_model.specs.RegionGraph.{GraphEdge}
use Rattle.agglo_model.proofs.Edges.{each_axis}
use Rattle.agglo_model.proofs.Tests.{both_apart}
use Rattle.region_graph.specs.Boxes.{GainsContacts, IsBlock, IsBox, ends_above, in_box, in_span, raised_low, volume_of}
use Rattle.region_graph.proofs.ContactGains.{gains-both, gains-same}
use Rattle.region_graph.proofs.Layers.{three_of}

-- ---- the voxels of a block with a voxel below them in the larger box

raised_x : (i t : Bool) (q l m h : ℕ)
    → (i && ((leb (max l (m + 1)) q && ltb q h) && t)) ≡ (ltb m q && (i && ((leb l q && ltb q h) && t)))
raised_x i t q l m h = grind (arith, nat_tests)

raised_y : (i s t : Bool) (q l m h : ℕ)
    → (i && (s && ((leb (max l (m + 1)) q && ltb q h) && t))) ≡ (ltb m q && (i && (s && ((leb l q && ltb q h) && t))))
raised_y i s t q l m h = grind (arith, nat_tests)

raised_z : (i s t : Bool) (q l m h : ℕ)
    → (i && (s && (t && (leb (max l (m + 1)) q && ltb q h)))) ≡ (ltb m q && (i && (s && (t && (leb l q && ltb q h)))))
raised_z i s t q l m h = grind (arith, nat_tests)

pub raised_in : (a : Axes) (outer_lo lo hi : List ℕ) (axis v : ℕ) → axis < 3 → length lo ≡ 3
    → in_box a (raised_low outer_lo lo axis) hi v ≡ (ltb (get_or outer_lo axis 0) (coordinate a v axis) && in_box a lo hi v)
raised_in a outer_lo lo hi axis v below len =
    let P : List ℕ → Type 0 = λ ls. in_box a (raised_low outer_lo ls axis) hi v ≡ (ltb (get_or outer_lo axis 0) (coordinate a v axis) && in_box a ls hi v) in
    subst P (sym (three_of lo len)) (step (get_or lo 0 0) (get_or lo 1 0) (get_or lo 2 0))
  where
    step : (x y z : ℕ) → in_box a (raised_low outer_lo (x ∷ y ∷ z ∷ []) axis) hi v
        ≡ (ltb (get_or outer_lo axis 0) (coordinate a v axis) && in_box a (x ∷ y ∷ z ∷ []) hi v)
    step x y z =
        let lo : List ℕ = x ∷ y ∷ z ∷ [] in
        let i = ltb v (voxel_count a) in
        each_axis (λ k. in_box a (raised_low outer_lo lo k) hi v ≡ (ltb (get_or outer_lo k 0) (coordinate a v k) && in_box a lo hi v)) axis below
        (raised_x i (in_span a lo hi v 1 && in_span a lo hi v 2) (coordinate a v 0) x (get_or outer_lo 0 0) (get_or hi 0 0))
        (raised_y i (in_span a lo hi v 0) (in_span a lo hi v 2) (coordinate a v 1) y (get_or outer_lo 1 0) (get_or hi 1 0))
        (raised_z i (in_span a lo hi v 0) (in_span a lo hi v 1) (coordinate a v 2) z (get_or outer_lo 2 0) (get_or hi 2 0))

-- ---- corners with one coordinate set

at_set : (xs : List ℕ) (axis k mid : ℕ) (P : ℕ → Type 0) → axis < length xs → (k ≡ axis → P mid) → P (get_or xs k 0)
    → P (get_or (set xs axis mid) k 0)
at_set xs axis k mid P below here other = by_cases (eqb k axis) refl
  where
    by_cases : (b : Bool) → eqb k axis ≡ b → P (get_or (set xs axis mid) k 0)
    by_cases true same =
        let e : k ≡ axis = eqb-true k axis same in
        subst P (sym (ap (λ j. get_or (set xs axis mid) j 0) e ∙ get_or-set_same xs axis mid 0 below)) (here e)
    by_cases false apart =
        subst P (sym (get_or-set_other xs axis k mid 0 (λ e. false≢true (sym apart ∙ eq-eqb k axis e)))) other

by_corners : (P : List ℕ → List ℕ → Type 0) (lo hi : List ℕ) → length lo ≡ 3 → length hi ≡ 3
    → ((x y z p q r : ℕ) → P (x ∷ y ∷ z ∷ []) (p ∷ q ∷ r ∷ [])) → P lo hi
by_corners P lo hi lo_three hi_three each =
    subst (λ ls. P ls hi) (sym (three_of lo lo_three))
    (subst (P _) (sym (three_of hi hi_three))
    (each (get_or lo 0 0) (get_or lo 1 0) (get_or lo 2 0) (get_or hi 0 0) (get_or hi 1 0) (get_or hi 2 0)))

-- ---- raised blocks

raised_at : (a : Axes) (outer_lo lo hi : List ℕ) (axis k : ℕ) → axis < 3 → k < 3 → IsBlock a outer_lo lo hi
    → (get_or lo k 0 ≤ get_or (raised_low outer_lo lo axis) k 0) × (get_or (raised_low outer_lo lo axis) k 0 ≤ get_or hi k 0)
raised_at a outer_lo lo hi axis k three below block =
    let n = max (get_or lo axis 0) (get_or outer_lo axis 0 + 1) in
    let long : axis < length lo = omega (arith, block.lo_three) in
    let some = block.box.some axis three in
    let outer = block.outer_low axis three in
    let some_k = block.box.some k below in
    let low : get_or lo axis 0 ≤ n = omega arith in
    let high : n ≤ get_or hi axis 0 = omega arith in (
      at_set lo axis k n (λ m. get_or lo k 0 ≤ m) long (λ e. subst (λ j. get_or lo j 0 ≤ n) (sym e) low) (omega arith),
      at_set lo axis k n (λ m. m ≤ get_or hi k 0) long (λ e. subst (λ j. n ≤ get_or hi j 0) (sym e) high) (omega arith),
    )

pub raised_box : (a : Axes) (outer_lo lo hi : List ℕ) (axis : ℕ) → axis < 3 → IsBlock a outer_lo lo hi
    → IsBox a (raised_low outer_lo lo axis) hi
raised_box a outer_lo lo hi axis three block =
    let x = raised_at a outer_lo lo hi axis 0 three (omega arith) block in
    let y = raised_at a outer_lo lo hi axis 1 three (omega arith) block in
    let z = raised_at a outer_lo lo hi axis 2 three (omega arith) block in
    record {
      from_x = x.1;
      from_y = y.1;
      from_z = z.1;
      most_x = block.box.most 0 (omega arith);
      most_y = block.box.most 1 (omega arith);
      most_z = block.box.most 2 (omega arith);
    }

pub outer_below : (a : Axes) (outer_lo lo hi : List ℕ) (axis : ℕ) → axis < 3 → IsBlock a outer_lo lo hi
    → get_or outer_lo axis 0 < get_or hi axis 0
outer_below a outer_lo lo hi axis three block = omega (arith, block.outer_low axis three, block.box.some axis three)

pub raised_inner : (outer_lo lo : List ℕ) (axis : ℕ) → axis < 3 → length lo ≡ 3 → 0 < get_or (raised_low outer_lo lo axis) axis 0
raised_inner outer_lo lo axis three len =
    let n = max (get_or lo axis 0) (get_or outer_lo axis 0 + 1) in
    let some : 0 < n = omega arith in
    subst (λ m. 0 < m) (sym (get_or-set_same lo axis n 0 (omega (arith, len)))) some

mul_le : (a b c p q r : ℕ) → a ≤ p → b ≤ q → c ≤ r → a * (b * c) ≤ p * (q * r)
mul_le a b c p q r x y z =
    let one : b * c ≤ b * r = mul-le-mul_left b z in
    let two : b * r ≤ q * r = mul-le-mul_right r y in
    let three : a * (b * c) ≤ a * (q * r) = mul-le-mul_left a (omega (arith, one, two)) in
    let four : a * (q * r) ≤ p * (q * r) = mul-le-mul_right (q * r) x in
    omega (arith, three, four)

pub raised_volume : (a : Axes) (outer_lo lo hi : List ℕ) (axis : ℕ) → axis < 3 → IsBlock a outer_lo lo hi
    → volume_of (raised_low outer_lo lo axis) hi ≤ volume_of lo hi
raised_volume a outer_lo lo hi axis three block =
    let x = raised_at a outer_lo lo hi axis 0 three (omega arith) block in
    let y = raised_at a outer_lo lo hi axis 1 three (omega arith) block in
    let z = raised_at a outer_lo lo hi axis 2 three (omega arith) block in
    let r = raised_low outer_lo lo axis in
    mul_le (get_or hi 0 0 - get_or r 0 0) (get_or hi 1 0 - get_or r 1 0) (get_or hi 2 0 - get_or r 2 0)
    (get_or hi 0 0 - get_or lo 0 0) (get_or hi 1 0 - get_or lo 1 0) (get_or hi 2 0 - get_or lo 2 0)
    (omega (arith, x.0)) (omega (arith, y.0)) (omega (arith, z.0))

-- a box has at most the voxels of the volume
pub volume_box : (a : Axes) (lo hi : List ℕ) → IsBox a lo hi → volume_of lo hi ≤ voxel_count a
volume_box a lo hi box =
    let less = mul_le (get_or hi 0 0 - get_or lo 0 0) (get_or hi 1 0 - get_or lo 1 0) (get_or hi 2 0 - get_or lo 2 0) a.nx a.ny a.nz
    (omega (arith, box.most_x)) (omega (arith, box.most_y)) (omega (arith, box.most_z)) in
    omega (arith, less)

-- ---- halves

split_sum : (a b c r : ℕ) → a ≡ b + c → a * r ≡ b * r + c * r
split_sum a b c r e = ap (λ n. n * r) e ∙ omega arith

split_mid : (p a b c r : ℕ) → a ≡ b + c → p * (a * r) ≡ p * (b * r) + p * (c * r)
split_mid p a b c r e = ap (λ n. p * (n * r)) e ∙ omega arith

split_last : (p q a b c : ℕ) → a ≡ b + c → p * (q * a) ≡ p * (q * b) + p * (q * c)
split_last p q a b c e = ap (λ n. p * (q * n)) e ∙ omega arith

parted : (l m h : ℕ) → l ≤ m → m ≤ h → h - l ≡ (m - l) + (h - m)
parted l m h low high = omega arith

pub volume_halves : (lo hi : List ℕ) (axis mid : ℕ) → axis < 3 → length lo ≡ 3 → length hi ≡ 3
    → get_or lo axis 0 ≤ mid → mid ≤ get_or hi axis 0
    → volume_of lo hi ≡ volume_of lo (set hi axis mid) + volume_of (set lo axis mid) hi
volume_halves lo hi axis mid three lo_three hi_three =
    by_corners (λ l h. get_or l axis 0 ≤ mid → mid ≤ get_or h axis 0
    → volume_of l h ≡ volume_of l (set h axis mid) + volume_of (set l axis mid) h) lo hi lo_three hi_three
    (λ x y z p q r. each_axis (λ k. get_or (x ∷ y ∷ z ∷ []) k 0 ≤ mid → mid ≤ get_or (p ∷ q ∷ r ∷ []) k 0
    → volume_of (x ∷ y ∷ z ∷ []) (p ∷ q ∷ r ∷ [])
    ≡ volume_of (x ∷ y ∷ z ∷ []) (set (p ∷ q ∷ r ∷ []) k mid) + volume_of (set (x ∷ y ∷ z ∷ []) k mid) (p ∷ q ∷ r ∷ [])) axis three
    (λ low high. split_sum (p - x) (mid - x) (p - mid) ((q - y) * (r - z)) (parted x mid p low high))
    (λ low high. split_mid (p - x) (q - y) (mid - y) (q - mid) (r - z) (parted y mid q low high))
    (λ low high. split_last (p - x) (q - y) (r - z) (mid - z) (r - mid) (parted z mid r low high)))

either_x : (i t : Bool) (q l m h : ℕ) → l ≤ m → m ≤ h
    → ((i && ((leb l q && ltb q m) && t)) || (i && ((leb m q && ltb q h) && t))) ≡ (i && ((leb l q && ltb q h) && t))
either_x i t q l m h low high = grind (arith, nat_tests)

either_y : (i s t : Bool) (q l m h : ℕ) → l ≤ m → m ≤ h
    → ((i && (s && ((leb l q && ltb q m) && t))) || (i && (s && ((leb m q && ltb q h) && t)))) ≡ (i && (s && ((leb l q && ltb q h) && t)))
either_y i s t q l m h low high = grind (arith, nat_tests)

either_z : (i s t : Bool) (q l m h : ℕ) → l ≤ m → m ≤ h
    → ((i && (s && (t && (leb l q && ltb q m)))) || (i && (s && (t && (leb m q && ltb q h))))) ≡ (i && (s && (t && (leb l q && ltb q h))))
either_z i s t q l m h low high = grind (arith, nat_tests)

either_half : (a : Axes) (lo hi : List ℕ) (axis mid v : ℕ) → axis < 3 → length lo ≡ 3 → length hi ≡ 3
    → get_or lo axis 0 ≤ mid → mid ≤ get_or hi axis 0
    → (in_box a lo (set hi axis mid) v || in_box a (set lo axis mid) hi v) ≡ in_box a lo hi v
either_half a lo hi axis mid v three lo_three hi_three =
    by_corners (λ l h. get_or l axis 0 ≤ mid → mid ≤ get_or h axis 0
    → (in_box a l (set h axis mid) v || in_box a (set l axis mid) h v) ≡ in_box a l h v) lo hi lo_three hi_three
    (λ x y z p q r. each_axis (λ k. get_or (x ∷ y ∷ z ∷ []) k 0 ≤ mid → mid ≤ get_or (p ∷ q ∷ r ∷ []) k 0
    → (in_box a (x ∷ y ∷ z ∷ []) (set (p ∷ q ∷ r ∷ []) k mid) v || in_box a (set (x ∷ y ∷ z ∷ []) k mid) (p ∷ q ∷ r ∷ []) v)
    ≡ in_box a (x ∷ y ∷ z ∷ []) (p ∷ q ∷ r ∷ []) v) axis three
    (λ low high. either_x (ltb v (voxel_count a)) (within y q 1 && within z r 2) (coordinate a v 0) x mid p low high)
    (λ low high. either_y (ltb v (voxel_count a)) (within x p 0) (within z r 2) (coordinate a v 1) y mid q low high)
    (λ low high. either_z (ltb v (voxel_count a)) (within x p 0) (within y q 1) (coordinate a v 2) z mid r low high))
  where
    within : ℕ → ℕ → ℕ → Bool
    within low high k = leb low (coordinate a v k) && ltb (coordinate a v k) high

apart_x : (i t u : Bool) (q l m h : ℕ) → ((i && ((leb l q && ltb q m) && t)) && (i && ((leb m q && ltb q h) && u))) ≡ false
apart_x i t u q l m h = grind (arith, nat_tests)

apart_y : (i s t : Bool) (q l m h : ℕ) → ((i && (s && ((leb l q && ltb q m) && t))) && (i && (s && ((leb m q && ltb q h) && t)))) ≡ false
apart_y i s t q l m h = grind (arith, nat_tests)

apart_z : (i s t : Bool) (q l m h : ℕ) → ((i && (s && (t && (leb l q && ltb q m)))) && (i && (s && (t && (leb m q && ltb q h))))) ≡ false
apart_z i s t q l m h = grind (arith, nat_tests)

halves_apart : (a : Axes) (lo hi : List ℕ) (axis mid v : ℕ) → axis < 3 → length lo ≡ 3 → length hi ≡ 3
    → (in_box a lo (set hi axis mid) v && in_box a (set lo axis mid) hi v) ≡ false
halves_apart a lo hi axis mid v three lo_three hi_three =
    by_corners (λ l h. (in_box a l (set h axis mid) v && in_box a (set l axis mid) h v) ≡ false) lo hi lo_three hi_three
    (λ x y z p q r. each_axis (λ k. (in_box a (x ∷ y ∷ z ∷ []) (set (p ∷ q ∷ r ∷ []) k mid) v
    && in_box a (set (x ∷ y ∷ z ∷ []) k mid) (p ∷ q ∷ r ∷ []) v) ≡ false) axis three
    (apart_x (ltb v (voxel_count a)) (within y q 1 && within z r 2) (within y q 1 && within z r 2) (coordinate a v 0) x mid p)
    (apart_y (ltb v (voxel_count a)) (within x p 0) (within z r 2) (coordinate a v 1) y mid q)
    (apart_z (ltb v (voxel_count a)) (within x p 0) (within y q 1) (coordinate a v 2) z mid r))
  where
    within : ℕ → ℕ → ℕ → Bool
    within low high k = leb low (coordinate a v k) && ltb (coordinate a v k) high

-- a block halved at a coordinate of an axis inside it
pub record IsHalved (a : Axes) (outer_lo lo hi : List ℕ) (axis mid : ℕ) : Type 0 where
  pub block : IsBlock a outer_lo lo hi
  pub three : axis < 3
  pub low : get_or lo axis 0 < mid
  pub high : mid < get_or hi axis 0

pub lower_block : (a : Axes) (outer_lo lo hi : List ℕ) (axis mid : ℕ) → IsHalved a outer_lo lo hi axis mid
    → IsBlock a outer_lo lo (set hi axis mid)
lower_block a outer_lo lo hi axis mid halved =
    let block = halved.block in
    let long : axis < length hi = omega (arith, block.hi_three, halved.three) in
    record {
      box = record {
        some = λ k three. at_set hi axis k mid (λ n. get_or lo k 0 < n) long
            (λ e. subst (λ j. get_or lo j 0 < mid) (sym e) halved.low) (block.box.some k three);
        most = λ k three. at_set hi axis k mid (λ n. n ≤ length_on a k) long
            (λ e. subst (λ j. mid ≤ length_on a j) (sym e) (omega (arith, halved.high, block.box.most axis halved.three)))
            (block.box.most k three);
      };
      outer_low = block.outer_low;
      lo_three = block.lo_three;
      hi_three = length-set hi axis mid ∙ block.hi_three;
    }

pub upper_block : (a : Axes) (outer_lo lo hi : List ℕ) (axis mid : ℕ) → IsHalved a outer_lo lo hi axis mid
    → IsBlock a outer_lo (set lo axis mid) hi
upper_block a outer_lo lo hi axis mid halved =
    let block = halved.block in
    let long : axis < length lo = omega (arith, block.lo_three, halved.three) in
    record {
      box = record {
        some = λ k three. at_set lo axis k mid (λ n. n < get_or hi k 0) long
            (λ e. subst (λ j. mid < get_or hi j 0) (sym e) halved.high) (block.box.some k three);
        most = block.box.most;
      };
      outer_low = λ k three. at_set lo axis k mid (λ n. get_or outer_lo k 0 ≤ n) long
          (λ e. subst (λ j. get_or outer_lo j 0 ≤ mid) (sym e) (omega (arith, block.outer_low axis halved.three, halved.low)))
          (block.outer_low k three);
      lo_three = length-set lo axis mid ∙ block.lo_three;
      hi_three = block.hi_three;
    }

-- how far the corners are apart, on all axes together
abbrev pub span : List ℕ → List ℕ → ℕ
span lo hi = (get_or hi 0 0 - get_or lo 0 0) + (get_or hi 1 0 - get_or lo 1 0) + (get_or hi 2 0 - get_or lo 2 0)

-- which is less for a half
pub span_halves : (a : Axes) (outer_lo lo hi : List ℕ) (axis mid : ℕ) → IsHalved a outer_lo lo hi axis mid
    → (span lo (set hi axis mid) < span lo hi) × (span (set lo axis mid) hi < span lo hi)
span_halves a outer_lo lo hi axis mid halved =
    by_corners (λ l h. get_or l axis 0 < mid → mid < get_or h axis 0 → (span l (set h axis mid) < span l h) × (span (set l axis mid) h < span l h))
    lo hi halved.block.lo_three halved.block.hi_three
    (λ x y z p q r. each_axis (λ k. get_or (x ∷ y ∷ z ∷ []) k 0 < mid → mid < get_or (p ∷ q ∷ r ∷ []) k 0
    → (span (x ∷ y ∷ z ∷ []) (set (p ∷ q ∷ r ∷ []) k mid) < span (x ∷ y ∷ z ∷ []) (p ∷ q ∷ r ∷ []))
    × (span (set (x ∷ y ∷ z ∷ []) k mid) (p ∷ q ∷ r ∷ []) < span (x ∷ y ∷ z ∷ []) (p ∷ q ∷ r ∷ []))) axis halved.three
    (λ low high. (omega arith, omega arith)) (λ low high. (omega arith, omega arith)) (λ low high. (omega arith, omega arith)))
    halved.low halved.high

pub gains-halves : (g : Grid) (labels outer_lo lo hi : List ℕ) (axis mid : ℕ) (es fs gs : List GraphEdge)
    → IsHalved g.axes outer_lo lo hi axis mid
    → GainsContacts g labels (ends_above g.axes outer_lo lo (set hi axis mid)) es fs
    → GainsContacts g labels (ends_above g.axes outer_lo (set lo axis mid) hi) fs gs
    → GainsContacts g labels (ends_above g.axes outer_lo lo hi) es gs
gains-halves g labels outer_lo lo hi axis mid es fs gs halved lower upper =
    let a = g.axes in
    let block = halved.block in
    let above : ℕ → Bool = λ e. ltb (get_or outer_lo (e % 3) 0) (coordinate a (e / 3) (e % 3)) in
    let p = ends_above a outer_lo lo (set hi axis mid) in
    let q = ends_above a outer_lo (set lo axis mid) hi in
    gains-same g labels (λ e. p e || q e) (ends_above a outer_lo lo hi) es gs
    (λ e _. sym (and-or_distrib_left (above e) (in_box a lo (set hi axis mid) (e / 3)) (in_box a (set lo axis mid) hi (e / 3)))
    ∙ ap (λ b. above e && b) (either_half a lo hi axis mid (e / 3) halved.three block.lo_three block.hi_three
    (omega (arith, halved.low)) (omega (arith, halved.high))))
    (gains-both g labels p q es fs gs
    (λ e. both_apart (above e) (in_box a lo (set hi axis mid) (e / 3)) (in_box a (set lo axis mid) hi (e / 3))
    (halves_apart a lo hi axis mid (e / 3) halved.three block.lo_three block.hi_three)) lower upper)
