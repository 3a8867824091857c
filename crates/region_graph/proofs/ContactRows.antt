-- The contact edges of a run of voxels on one axis, voxel by voxel.
use Rattle.std.proofs.Common.{◌≡◌, ◌≢◌, ◌⊎◌, ℕ, ◌+◌, ◌*◌, ◌-◌, ◌/◌, ◌%◌, ◌<◌, ◌≤◌, min, max, Bool, true, false, not, ◌&&◌, ◌||◌, eqb, ltb, leb, List, [], ◌∷◌, ◌++◌, refl, sym, ap, ◌∙◌, subst, arith}
use Rattle.std.proofs.lemmas.Bool.{and_from, lt-ltb, eqb-true, false≢true, and_right}
use Rattle.std.proofs.lemmas.Bool.Decides.{nat_tests}
use Rattle.agglo_model.specs.Axes.{voxel_count, edge_count, coordinate, stride, is_edge}
use Rattle.agglo_model.specs.Basins.{label_of}
use Rattle.agglo_model.specs.Grid.{Grid, affinity}
use Rattle.agglo_model.specs.Contacts.{are, differ, is_contact_edge, joins, lower_label, higher_label}
use Rattle.agglo_model.specs.RegionGraph.{GraphEdge}
use Rattle.region_graph.specs.Lists.{AreOrdered, SameContacts, count_of}
use Rattle.region_graph.specs.Boxes.{GainsContacts, ends_among, in_run}
use Rattle.region_graph.proofs.ContactGains.{alone, gains-nothing, gains-both, gains-same, gains-edge}

-- ---- the edge of a voxel on an axis

-- what is known of a voxel with an edge on an axis
pub record HasEdgeOn (g : Grid) (v axis : ℕ) : Type 0 where
  pub axis_is : axis < 3
  pub voxel : v < voxel_count g.axes
  pub inner : 0 < coordinate g.axes v axis

number_below : (g : Grid) (v axis : ℕ) → HasEdgeOn g v axis → 3 * v + axis < edge_count g.axes
number_below g v axis has = omega (arith, has.axis_is, has.voxel)

edge_there : (g : Grid) (v axis : ℕ) → HasEdgeOn g v axis → is_edge g.axes (3 * v + axis) ≡ true
edge_there g v axis has =
    let axis_is = has.axis_is in
    let higher : (3 * v + axis) / 3 ≡ v = omega arith in
    let same_axis : (3 * v + axis) % 3 ≡ axis = omega arith in
    let inner : 0 < coordinate g.axes ((3 * v + axis) / 3) ((3 * v + axis) % 3) =
    subst (λ c. 0 < coordinate g.axes ((3 * v + axis) / 3) c) (sym same_axis)
    (subst (λ w. 0 < coordinate g.axes w axis) (sym higher) has.inner) in
    and_from _ _ (lt-ltb (3 * v + axis) (edge_count g.axes) (number_below g v axis has))
    (lt-ltb 0 (coordinate g.axes ((3 * v + axis) / 3) ((3 * v + axis) % 3)) inner)

higher_is : (g : Grid) (labels : List ℕ) (v axis : ℕ) → axis < 3 → higher_label g labels (3 * v + axis) ≡ label_of labels v
higher_is g labels v axis below = let higher : (3 * v + axis) / 3 ≡ v = omega arith in ap (label_of labels) higher

lower_is : (g : Grid) (labels : List ℕ) (v axis : ℕ) → axis < 3
    → lower_label g labels (3 * v + axis) ≡ label_of labels (v - stride g.axes axis)
lower_is g labels v axis below =
    let higher : (3 * v + axis) / 3 ≡ v = omega arith in
    let same_axis : (3 * v + axis) % 3 ≡ axis = omega arith in
    λ i. label_of labels (higher i - stride g.axes (same_axis i))

contact_is : (g : Grid) (labels : List ℕ) (v axis : ℕ) → HasEdgeOn g v axis
    → is_contact_edge g labels (3 * v + axis) ≡ differ (label_of labels (v - stride g.axes axis)) (label_of labels v)
contact_is g labels v axis has =
    (λ i. edge_there g v axis has i && differ (lower_is g labels v axis has.axis_is i) (higher_is g labels v axis has.axis_is i))

-- ---- a run of voxels

run_of : (axis from v e : ℕ) → axis < 3 → from ≤ v
    → ((eqb (e % 3) axis && (leb from (e / 3) && ltb (e / 3) v)) || eqb e (3 * v + axis))
    ≡ (eqb (e % 3) axis && (leb from (e / 3) && ltb (e / 3) (v + 1)))
run_of axis from v e below low = grind (arith, nat_tests)

apart_of : (axis from v e : ℕ) → axis < 3
    → ((eqb (e % 3) axis && (leb from (e / 3) && ltb (e / 3) v)) && eqb e (3 * v + axis)) ≡ false
apart_of axis from v e below = grind (arith, nat_tests)

none_of : (axis from e : ℕ) → (eqb (e % 3) axis && (leb from (e / 3) && ltb (e / 3) from)) ≡ false
none_of axis from e = grind (arith, nat_tests)

-- the contacts of the run up to v were gained, at most one edge of the grid for each voxel
pub record IsSummedTo (g : Grid) (labels : List ℕ) (axis from v : ℕ) (before now : List GraphEdge) : Type 0 where
  pub gains : GainsContacts g labels (ends_among axis (in_run from v)) before now
  pub count : count_of now ≤ count_of before + (v - from)

pub summed_none : (g : Grid) (labels : List ℕ) (axis from : ℕ) (es : List GraphEdge) → IsSummedTo g labels axis from from es es
summed_none g labels axis from es = record {
  gains = gains-nothing g labels (ends_among axis (in_run from from)) es
      (λ x y e. and_right (joins g labels x y e) (ends_among axis (in_run from from) e) (none_of axis from e));
  count = omega arith;
}

one_more : (g : Grid) (labels : List ℕ) (axis from v : ℕ) (es fs gs : List GraphEdge) → axis < 3 → from ≤ v
    → GainsContacts g labels (ends_among axis (in_run from v)) es fs → GainsContacts g labels (λ e. eqb e (3 * v + axis)) fs gs
    → GainsContacts g labels (ends_among axis (in_run from (v + 1))) es gs
one_more g labels axis from v es fs gs below low so_far one =
    gains-same g labels (λ e. ends_among axis (in_run from v) e || eqb e (3 * v + axis)) (ends_among axis (in_run from (v + 1))) es gs
    (λ e _. run_of axis from v e below low)
    (gains-both g labels (ends_among axis (in_run from v)) (λ e. eqb e (3 * v + axis)) es fs gs
    (λ e. apart_of axis from v e below) so_far one)

differ_of : (x y : ℕ) → y ≢ x → y ≢ 0 → x ≢ 0 → (not (eqb x y) && (ltb 0 x && ltb 0 y)) ≡ true
differ_of x y other one another = grind (arith, nat_tests)

alike_of : (x y : ℕ) → y ≡ x ⊎ (y ≡ 0 ⊎ x ≡ 0) → (not (eqb x y) && (ltb 0 x && ltb 0 y)) ≡ false
alike_of x y alike = grind (arith, nat_tests)

ordered_of : (x y : ℕ) → y ≢ x → min x y < max x y
ordered_of x y other = omega arith

-- the next voxel's edge joins two names, and was added
pub summed_edge : (g : Grid) (labels : List ℕ) (axis from v : ℕ) (es fs gs : List GraphEdge) (lower higher : ℕ)
    → HasEdgeOn g v axis → from ≤ v → IsSummedTo g labels axis from v es fs
    → lower ≡ label_of labels (v - stride g.axes axis) → higher ≡ label_of labels v
    → higher ≢ lower → higher ≢ 0 → lower ≢ 0 → (new : GraphEdge)
    → new ≡ record {
      a = min lower higher;
      b = max lower higher;
      contact = record { sum = affinity g (3 * v + axis); count = 1; tie = 3 * v + axis };
    }
    → (AreOrdered fs → new.a < new.b → AreOrdered gs) → SameContacts (fs ++ new ∷ []) gs → count_of gs ≡ count_of fs + new.contact.count
    → IsSummedTo g labels axis from (v + 1) es gs
summed_edge g labels axis from v es fs gs lower higher has low so_far lower_at higher_at other some_higher some_lower new new_is orders same count =
    let k = 3 * v + axis in
    let one : count_of gs ≡ count_of fs + 1 = count ∙ ap (λ (e : GraphEdge). count_of fs + e.contact.count) new_is in
    let so_many = so_far.count in
    let low_is = lower_at ∙ sym (lower_is g labels v axis has.axis_is) in
    let high_is = higher_at ∙ sym (higher_is g labels v axis has.axis_is) in
    let is_alone : new ≡ alone g labels k = new_is
    ∙ (λ i. record {
      a = min (low_is i) (high_is i);
      b = max (low_is i) (high_is i);
      contact = record { sum = affinity g k; count = 1; tie = k };
    }) in
    let contact = contact_is g labels v axis has ∙ (λ i. differ (sym lower_at i) (sym higher_at i))
    ∙ differ_of lower higher other some_higher some_lower in
    let in_order : new.a < new.b = subst (λ (e : GraphEdge). e.a < e.b) (sym new_is) (ordered_of lower higher other) in
    record {
      gains = one_more g labels axis from v es fs gs has.axis_is low so_far.gains
          (gains-edge g labels k fs gs (number_below g v axis has) contact
          (subst (λ e. SameContacts (fs ++ e ∷ []) gs) is_alone same)
          (λ ordered. orders ordered in_order));
      count = omega (arith, one);
    }

-- the next voxel's edge joins no two names
pub summed_alike : (g : Grid) (labels : List ℕ) (axis from v : ℕ) (es fs gs : List GraphEdge) (lower higher : ℕ)
    → HasEdgeOn g v axis → from ≤ v → IsSummedTo g labels axis from v es fs
    → lower ≡ label_of labels (v - stride g.axes axis) → higher ≡ label_of labels v
    → higher ≡ lower ⊎ (higher ≡ 0 ⊎ lower ≡ 0) → gs ≡ fs
    → IsSummedTo g labels axis from (v + 1) es gs
summed_alike g labels axis from v es fs gs lower higher has low so_far lower_at higher_at alike same =
    let k = 3 * v + axis in
    let none : is_contact_edge g labels k ≡ false =
    contact_is g labels v axis has ∙ (λ i. differ (sym lower_at i) (sym higher_at i)) ∙ alike_of lower higher alike in
    let so_many = so_far.count in
    subst (IsSummedTo g labels axis from (v + 1) es) (sym same) (record {
      gains = one_more g labels axis from v es fs fs has.axis_is low so_far.gains
          (gains-nothing g labels (λ e. eqb e k) fs (λ x y e. no_contact_at x y e none));
      count = omega arith;
    })
  where
    fails : (i a t : Bool) → (t ≡ true → i ≡ false) → ((i && a) && t) ≡ false
    fails true a true h = absurd (false≢true (sym (h refl)))
    fails true true false h = refl
    fails true false false h = refl
    fails false a t h = refl

    no_contact_at : (x y e : ℕ) → is_contact_edge g labels (3 * v + axis) ≡ false
        → (joins g labels x y e && eqb e (3 * v + axis)) ≡ false
    no_contact_at x y e none = fails (is_contact_edge g labels e) (are (lower_label g labels e) (higher_label g labels e) x y) (eqb e (3 * v + axis))
        (λ here. ap (is_contact_edge g labels) (eqb-true e (3 * v + axis) here) ∙ none)
