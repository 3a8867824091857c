-- One list alone has the three properties of basin labels, and what it holds.
use Rattle.std.proofs.Common.{◌≡◌, ℕ, zero, suc, ◌+◌, ◌-◌, ◌<◌, ◌≤◌, ◌⊎◌, List, length, map, refl, sym, ◌∙◌, subst, inl, inr, arith, ext_get_or}
use Rattle.std.specs.List.{range_with_len}
use Rattle.std.proofs.lemmas.Bool.{cases_lt}
use Rattle.std.proofs.lemmas.List.{get_or_past}
use Rattle.std.proofs.lemmas.List.FromFn.{length-map-range_with_len, get_or-map-range_with_len}
use Rattle.agglo_model.specs.Axes.{AreEnds, voxel_count, lower_end, higher_end}
use Rattle.agglo_model.specs.Grid.{Grid}
use Rattle.agglo_model.specs.EdgeOrder.{IsBest}
use Rattle.agglo_model.specs.Basins.{label_of, AreBasins}
use Rattle.agglo_model.proofs.Edges.{higher_end_below, lower_below_higher}
use Rattle.agglo_model.proofs.BestEdge.{has_best, no_strong_no_best}
use Rattle.agglo_model.proofs.Ascent.{Stays, Roots, Climbs, ascent_of, Within, climb, climb_none, climb_root, climb_on, climb_is_name, no_step, within_next, within_all, enough_steps, basin_name, basin_name_zero, basin_name_none, basin_name_across, basin_name-le, basin_name_named, IsRoot, root_is, name_at_root}

-- the names of all voxels
unfoldable pub basin_labels : Grid → ℕ → List ℕ
basin_labels g low = map (basin_name g low) (range_with_len 0 (voxel_count g.axes))

pub length-basin_labels : (g : Grid) (low : ℕ) → length (basin_labels g low) ≡ voxel_count g.axes
unfolding basin_labels
length-basin_labels g low = length-map-range_with_len (basin_name g low) 0 (voxel_count g.axes)

pub basin_labels_at : (g : Grid) (low v : ℕ) → v < voxel_count g.axes
    → label_of (basin_labels g low) v ≡ basin_name g low v
unfolding basin_labels
basin_labels_at g low v lt =
    get_or-map-range_with_len (basin_name g low) 0 (voxel_count g.axes) v v 0 lt (omega arith)

-- a list of the names of all voxels is the basin labels
pub are_basins_from : (g : Grid) (low : ℕ) (labels : List ℕ) → length labels ≡ voxel_count g.axes
    → ((v : ℕ) → v < voxel_count g.axes → label_of labels v ≡ basin_name g low v) → AreBasins g low labels
are_basins_from g low labels len at = record {
  one_each = len;
  background = λ v lt. (
    (λ is. (basin_name_zero g low v).0 (sym (at v lt) ∙ is)),
    (λ h. at v lt ∙ basin_name_none g low v h),
  );
  along = λ v e b.
      let t = b.strong.edge in
      let h = higher_end_below g.axes e t in
      let l = lower_below_higher g.axes e t in
      at (lower_end g.axes e) (omega arith) ∙ across v e b b.strong.meets ∙ sym (at (higher_end e) h);
  named = λ e b c.
      let t = b.strong.edge in
      let h = higher_end_below g.axes e t in
      let l = lower_below_higher g.axes e t in
      at (lower_end g.axes e) (omega arith) ∙ name_at_root g low e (record { lower = b; higher = c });
}
  where
    across : (v e : ℕ) → IsBest g low v e → (lower_end g.axes e ≡ v) ⊎ (higher_end e ≡ v)
        → basin_name g low (lower_end g.axes e) ≡ basin_name g low (higher_end e)
    across v e b (inl is) =
        basin_name_across g low (lower_end g.axes e) (higher_end e) e
        (subst (λ z. IsBest g low z e) (sym is) b) (inl (refl, refl))
    across v e b (inr is) = sym (
        basin_name_across g low (higher_end e) (lower_end g.axes e) e
        (subst (λ z. IsBest g low z e) (sym is) b) (inr (refl, refl)))

pub basin_labels_are : (g : Grid) (low : ℕ) → AreBasins g low (basin_labels g low)
basin_labels_are g low = are_basins_from g low (basin_labels g low) (length-basin_labels g low) (basin_labels_at g low)

pub label_across : (g : Grid) (low : ℕ) (labels : List ℕ) → AreBasins g low labels
    → (v w e : ℕ) → IsBest g low v e → AreEnds g.axes e v w → label_of labels v ≡ label_of labels w
label_across g low labels are v w e b (inl (l, h)) =
    subst (λ z. label_of labels z ≡ label_of labels w) l
    (subst (λ z. label_of labels (lower_end g.axes e) ≡ label_of labels z) h (are.along v e b))
label_across g low labels are v w e b (inr (l, h)) =
    sym (subst (λ z. label_of labels z ≡ label_of labels v) l
    (subst (λ z. label_of labels (lower_end g.axes e) ≡ label_of labels z) h (are.along v e b)))

pub label_at_root : (g : Grid) (low : ℕ) (labels : List ℕ) → AreBasins g low labels
    → (v w e : ℕ) → AreEnds g.axes e v w → IsBest g low v e → IsBest g low w e
    → label_of labels v ≡ lower_end g.axes e + 1
label_at_root g low labels are v w e ends b c = side ends
  where
    root : IsRoot g low e
    root = root_is g low e v w ends b c

    named : label_of labels (lower_end g.axes e) ≡ lower_end g.axes e + 1
    named = are.named e root.lower root.higher

    side : AreEnds g.axes e v w → label_of labels v ≡ lower_end g.axes e + 1
    side (inl (l, h)) = subst (λ z. label_of labels z ≡ lower_end g.axes e + 1) l named
    side (inr (l, h)) =
        subst (λ z. label_of labels z ≡ lower_end g.axes e + 1) h (sym (are.along v e b) ∙ named)

pub end_below : (g : Grid) (low v w e : ℕ) → IsBest g low v e → AreEnds g.axes e v w → w < voxel_count g.axes
end_below g low v w e b ends = side ends
  where
    top : higher_end e < voxel_count g.axes
    top = higher_end_below g.axes e b.strong.edge

    less : lower_end g.axes e < higher_end e
    less = lower_below_higher g.axes e b.strong.edge

    side : AreEnds g.axes e v w → w < voxel_count g.axes
    side (inl (l, h)) = subst (λ z. z < voxel_count g.axes) h top
    side (inr (l, h)) = subst (λ z. z < voxel_count g.axes) l (omega (arith, top, less))

label_is_climb : (g : Grid) (low : ℕ) (labels : List ℕ) → AreBasins g low labels
    → (k v : ℕ) → v < voxel_count g.axes → Within g low k v → label_of labels v ≡ climb g low k v
label_is_climb g low labels are zero v lt within =
    (are.background v lt).1 (no_step g low v within) ∙ sym (climb_none g low 0 v (no_step g low v within))
label_is_climb g low labels are (suc k) v lt within = elim (ascent_of g low v) [
  | Stays h ↦ (are.background v lt).1 h ∙ sym (climb_none g low (suc k) v h)
  | Roots e w b ends c ↦
      label_at_root g low labels are v w e ends b c ∙ sym (climb_root g low k v w e b ends c)
  | Climbs e w f b ends c ne ↦ label_across g low labels are v w e b ends
      ∙ label_is_climb g low labels are k w (end_below g low v w e b ends) (within_next g low k v w e f within b ends c ne)
      ∙ sym (climb_on g low k v w e f b ends c ne)
]

-- each entry of a list with the three properties is the name of its voxel's basin
pub label_is_name : (g : Grid) (low : ℕ) (labels : List ℕ) → AreBasins g low labels
    → (v : ℕ) → v < voxel_count g.axes → label_of labels v ≡ basin_name g low v
label_is_name g low labels are v lt =
    label_is_climb g low labels are (enough_steps g) v lt (within_all g low v)
    ∙ climb_is_name g low (enough_steps g) v (within_all g low v)

-- so there is one such list
pub same_basins : (g : Grid) (low : ℕ) (labels others : List ℕ) → AreBasins g low labels
    → AreBasins g low others → labels ≡ others
same_basins g low labels others are also = ext_get_or 0 labels others (are.one_each ∙ sym also.one_each)
    (λ v lt. let below : v < voxel_count g.axes = subst (λ z. v < z) are.one_each lt in
    label_is_name g low labels are v below ∙ sym (label_is_name g low others also v below))

pub label-le : (g : Grid) (low : ℕ) (labels : List ℕ) → AreBasins g low labels
    → (v : ℕ) → label_of labels v ≤ voxel_count g.axes
label-le g low labels are v = within (cases_lt v (voxel_count g.axes))
  where
    within : (v < voxel_count g.axes) ⊎ (voxel_count g.axes ≤ v) → label_of labels v ≤ voxel_count g.axes
    within (inl lt) = rw (label_is_name g low labels are v lt) (basin_name-le g low v)
    within (inr le) =
        rw (get_or_past labels v 0 (subst (λ z. z ≤ v) (sym are.one_each) le)) (omega arith)

-- a name that occurs is the label of the voxel whose number plus 1 it is
pub label_names_voxel : (g : Grid) (low : ℕ) (labels : List ℕ) → AreBasins g low labels
    → (u v : ℕ) → label_of labels u ≡ v + 1 → label_of labels v ≡ v + 1
label_names_voxel g low labels are u v is = within (cases_lt u (voxel_count g.axes))
  where
    below : v < voxel_count g.axes
    below = let h = label-le g low labels are u in omega arith

    found : u < voxel_count g.axes → (e : ℕ) × IsBest g low u e → label_of labels v ≡ v + 1
    found lt best =
        let name : basin_name g low u ≡ v + 1 = sym (label_is_name g low labels are u lt) ∙ is in
        let back : basin_name g low u - 1 ≡ v = omega arith in
        label_is_name g low labels are v below
        ∙ subst (λ z. basin_name g low z ≡ basin_name g low u) back (basin_name_named g low u best.0 best.1)
        ∙ name

    within : (u < voxel_count g.axes) ⊎ (voxel_count g.axes ≤ u) → label_of labels v ≡ v + 1
    within (inl lt) = elim (has_best g low u) [
      | inl weak ↦ (let zero_label = (are.background u lt).1 (no_strong_no_best g low u weak) in absurd (omega arith))
      | inr best ↦ found lt best
    ]
    within (inr le) =
        let past : label_of labels u ≡ 0 = get_or_past labels u 0 (subst (λ z. z ≤ u) (sym are.one_each) le) in
        absurd (omega arith)
