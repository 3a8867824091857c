-- The layer of a box at one coordinate of an axis.
use Rattle.std.proofs.Common.{◌≡◌, ℕ, ◌+◌, ◌<◌, ◌≤◌, min, Bool, ◌&&◌, eqb, ltb, leb, List, [], ◌∷◌, length, get_or, sym, subst, arith}
use Rattle.std.proofs.lemmas.Bool.Decides.{nat_tests}
use Rattle.std.proofs.lemmas.List.{get_or-set_same}
use Rattle.agglo_model.specs.Axes.{Axes, voxel_count, coordinate}
use Rattle.agglo_model.proofs.Edges.{each_axis}
use Rattle.region_graph.specs.Boxes.{IsBox, in_box, in_span}
use Rattle.region_graph.proofs.Layers.{three_of}
use Rattle.parent_join.specs.Across.{layer_from, layer_to}

first_of : (i t : Bool) (q l h p : ℕ) → l ≤ p
    → (i && ((leb p q && ltb q (min (p + 1) h)) && t)) ≡ ((i && ((leb l q && ltb q h) && t)) && eqb q p)
first_of i t q l h p low = grind (arith, nat_tests)

middle_of : (i s t : Bool) (q l h p : ℕ) → l ≤ p
    → (i && (s && ((leb p q && ltb q (min (p + 1) h)) && t))) ≡ ((i && (s && ((leb l q && ltb q h) && t))) && eqb q p)
middle_of i s t q l h p low = grind (arith, nat_tests)

last_of : (i s t : Bool) (q l h p : ℕ) → l ≤ p
    → (i && (s && (t && (leb p q && ltb q (min (p + 1) h))))) ≡ ((i && (s && (t && (leb l q && ltb q h)))) && eqb q p)
last_of i s t q l h p low = grind (arith, nat_tests)

-- its voxels are those of the box at that coordinate
pub layer_in : (a : Axes) (lo hi : List ℕ) (axis plane v : ℕ) → axis < 3 → length lo ≡ 3 → length hi ≡ 3
    → get_or lo axis 0 ≤ plane
    → in_box a (layer_from lo axis plane) (layer_to hi axis plane) v ≡ (in_box a lo hi v && eqb (coordinate a v axis) plane)
layer_in a lo hi axis plane v below three_lo three_hi =
    let P : List ℕ → List ℕ → Type 0 = λ ls hs. get_or ls axis 0 ≤ plane
    → in_box a (layer_from ls axis plane) (layer_to hs axis plane) v ≡ (in_box a ls hs v && eqb (coordinate a v axis) plane) in
    subst (P lo) (sym (three_of hi three_hi))
    (subst (λ ls. P ls (get_or hi 0 0 ∷ get_or hi 1 0 ∷ get_or hi 2 0 ∷ [])) (sym (three_of lo three_lo))
    (step (get_or lo 0 0) (get_or lo 1 0) (get_or lo 2 0) (get_or hi 0 0) (get_or hi 1 0) (get_or hi 2 0)))
  where
    step : (x y z x' y' z' : ℕ) → get_or (x ∷ y ∷ z ∷ []) axis 0 ≤ plane
        → in_box a (layer_from (x ∷ y ∷ z ∷ []) axis plane) (layer_to (x' ∷ y' ∷ z' ∷ []) axis plane) v
        ≡ (in_box a (x ∷ y ∷ z ∷ []) (x' ∷ y' ∷ z' ∷ []) v && eqb (coordinate a v axis) plane)
    step x y z x' y' z' =
        let lo : List ℕ = x ∷ y ∷ z ∷ [] in
        let hi : List ℕ = x' ∷ y' ∷ z' ∷ [] in
        let i = ltb v (voxel_count a) in
        each_axis (λ k. get_or lo k 0 ≤ plane
        → in_box a (layer_from lo k plane) (layer_to hi k plane) v ≡ (in_box a lo hi v && eqb (coordinate a v k) plane)) axis below
        (λ low. first_of i (in_span a lo hi v 1 && in_span a lo hi v 2) (coordinate a v 0) x x' plane low)
        (λ low. middle_of i (in_span a lo hi v 0) (in_span a lo hi v 2) (coordinate a v 1) y y' plane low)
        (λ low. last_of i (in_span a lo hi v 0) (in_span a lo hi v 1) (coordinate a v 2) z z' plane low)

-- it is a box, which is empty where the box ends there
pub layer_box : (a : Axes) (lo hi : List ℕ) (axis plane : ℕ) → axis < 3 → length lo ≡ 3 → length hi ≡ 3
    → IsBox a lo hi → plane ≤ get_or hi axis 0 → IsBox a (layer_from lo axis plane) (layer_to hi axis plane)
layer_box a lo hi axis plane below three_lo three_hi =
    let P : List ℕ → List ℕ → Type 0 = λ ls hs. IsBox a ls hs → plane ≤ get_or hs axis 0
    → IsBox a (layer_from ls axis plane) (layer_to hs axis plane) in
    subst (P lo) (sym (three_of hi three_hi))
    (subst (λ ls. P ls (get_or hi 0 0 ∷ get_or hi 1 0 ∷ get_or hi 2 0 ∷ [])) (sym (three_of lo three_lo))
    (step (get_or lo 0 0) (get_or lo 1 0) (get_or lo 2 0) (get_or hi 0 0) (get_or hi 1 0) (get_or hi 2 0)))
  where
    step : (x y z x' y' z' : ℕ) → IsBox a (x ∷ y ∷ z ∷ []) (x' ∷ y' ∷ z' ∷ []) → plane ≤ get_or (x' ∷ y' ∷ z' ∷ []) axis 0
        → IsBox a (layer_from (x ∷ y ∷ z ∷ []) axis plane) (layer_to (x' ∷ y' ∷ z' ∷ []) axis plane)
    step x y z x' y' z' = each_axis (λ k. IsBox a (x ∷ y ∷ z ∷ []) (x' ∷ y' ∷ z' ∷ []) → plane ≤ get_or (x' ∷ y' ∷ z' ∷ []) k 0
        → IsBox a (layer_from (x ∷ y ∷ z ∷ []) k plane) (layer_to (x' ∷ y' ∷ z' ∷ []) k plane)) axis below
        (λ box high. record {
          from_x = omega (arith, high);
          from_y = box.from_y;
          from_z = box.from_z;
          most_x = omega (arith, box.most_x);
          most_y = box.most_y;
          most_z = box.most_z;
        })
        (λ box high. record {
          from_x = box.from_x;
          from_y = omega (arith, high);
          from_z = box.from_z;
          most_x = box.most_x;
          most_y = omega (arith, box.most_y);
          most_z = box.most_z;
        })
        (λ box high. record {
          from_x = box.from_x;
          from_y = box.from_y;
          from_z = omega (arith, high);
          most_x = box.most_x;
          most_y = box.most_y;
          most_z = omega (arith, box.most_z);
        })

-- its low coordinate on the axis
pub layer_low : (lo : List ℕ) (axis plane : ℕ) → axis < 3 → length lo ≡ 3 → get_or (layer_from lo axis plane) axis 0 ≡ plane
layer_low lo axis plane below three =
    let long : axis < length lo = omega arith in get_or-set_same lo axis plane 0 long
