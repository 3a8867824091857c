-- Labels that are filled in along an ascent.
use Rattle.std.proofs.Common.{◌≡◌, ◌≢◌, ℕ, ◌+◌, ◌<◌, ◌≤◌, ◌⊎◌, List, length, set, sym, ◌∙◌, ap, subst, inl, inr, arith, get_or-set_same, get_or-set_other, eq-or-lt_of_le, le_trans, ◌^◌}
use Rattle.std.proofs.lemmas.Bool.{cases_eq}
use Rattle.agglo_model.specs.Axes.{voxel_count}
use Rattle.agglo_model.specs.Grid.{Grid, IsWhole, affinity}
use Rattle.agglo_model.specs.Basins.{label_of, AreBasins}
use Rattle.agglo_model.proofs.Ascent.{standing, standing_falls}
use Rattle.agglo_model.proofs.BasinLabels.{label_across, label_at_root, end_below, are_basins_from, basin_labels, basin_labels_are, basin_labels_at, label-le}
use Rattle.steepest_ascent.specs.Progress.{IsLabelOf, AreRightSoFar, GainsRightLabels}
use Rattle.steepest_ascent.specs.Turns.{EndsWith, ClimbsTo}

-- where the ascent ends, the name is the label
pub label_at_end : (g : Grid) (low v name : ℕ) → EndsWith g low v name → IsLabelOf g low v name
label_at_end g low v name h basins are =
    h.name_is ∙ sym (label_at_root g low basins are v h.far h.edge h.ends h.best h.both)

-- where it goes on, both voxels have one label
pub label_along : (g : Grid) (low v w : ℕ) → ClimbsTo g low v w
    → (basins : List ℕ) → AreBasins g low basins → label_of basins v ≡ label_of basins w
label_along g low v w h basins are = label_across g low basins are v w h.edge h.best h.ends

pub label_back : (g : Grid) (low v w label : ℕ) → ClimbsTo g low v w → IsLabelOf g low w label
    → IsLabelOf g low v label
label_back g low v w label h is basins are = is basins are ∙ sym (label_along g low v w h basins are)

pub label_on : (g : Grid) (low v w label : ℕ) → ClimbsTo g low v w → IsLabelOf g low v label
    → IsLabelOf g low w label
label_on g low v w label h is basins are = is basins are ∙ label_along g low v w h basins are

pub next_voxel : (g : Grid) (low v w : ℕ) → ClimbsTo g low v w → w < voxel_count g.axes
next_voxel g low v w h = end_below g low v w h.edge h.best h.ends

-- and the next voxel stands lower
pub climb_falls : (g : Grid) (low v w : ℕ) → IsWhole g → ClimbsTo g low v w
    → standing 255 g low w < standing 255 g low v
climb_falls g low v w whole h =
    standing_falls 255 g low v w h.edge h.next most h.best h.ends h.far_best h.other
  where
    most : (k : ℕ) → affinity g k ≤ 255
    most k = let p = whole.bytes_fit k in omega arith

-- a label that is there is right
pub label_there : (g : Grid) (low v : ℕ) (labels : List ℕ) → AreRightSoFar g low labels
    → label_of labels v ≢ 0 → IsLabelOf g low v (label_of labels v)
label_there g low v labels right ne = elim (right v) [ inl none ↦ absurd (ne none) | inr is ↦ is ]

-- a write of the right label
pub given_stays : (labels : List ℕ) (v w label : ℕ) → w < length labels → label_of labels v ≡ label
    → label_of (set labels w label) v ≡ label
given_stays labels v w label lt is = elim (cases_eq v w) [
  | inl same ↦ ap (label_of (set labels w label)) same ∙ get_or-set_same labels w label 0 lt
  | inr ne ↦ get_or-set_other labels w v label 0 ne ∙ is
]

pub gains_more : (g : Grid) (low : ℕ) (before labels : List ℕ) (w label : ℕ) → w < length labels
    → GainsRightLabels g low before labels → IsLabelOf g low w label
    → GainsRightLabels g low before (set labels w label)
gains_more g low before labels w label lt gains is v = pick (cases_eq v w)
  where
    pick : (v ≡ w) ⊎ (v ≢ w)
        → (label_of (set labels w label) v ≡ label_of before v) ⊎ IsLabelOf g low v (label_of (set labels w label) v)
    pick (inl same) = inr (subst (λ u. IsLabelOf g low u (label_of (set labels w label) u)) (sym same)
        (subst (λ l. IsLabelOf g low w l) (sym (get_or-set_same labels w label 0 lt)) is))
    pick (inr ne) =
        subst (λ l. (l ≡ label_of before v) ⊎ IsLabelOf g low v l)
        (sym (get_or-set_other labels w v label 0 ne)) (gains v)

-- labels that were right stay so
pub right_stays : (g : Grid) (low : ℕ) (before after : List ℕ) → AreRightSoFar g low before
    → GainsRightLabels g low before after → AreRightSoFar g low after
right_stays g low before after right gains v = pick (gains v) (right v)
  where
    pick : (label_of after v ≡ label_of before v) ⊎ IsLabelOf g low v (label_of after v)
        → (label_of before v ≡ 0) ⊎ IsLabelOf g low v (label_of before v)
        → (label_of after v ≡ 0) ⊎ IsLabelOf g low v (label_of after v)
    pick (inl same) (inl none) = inl (same ∙ none)
    pick (inl same) (inr is) = inr (subst (λ l. IsLabelOf g low v l) (sym same) is)
    pick (inr is) old = inr is

pub passed_one_more : (g : Grid) (low i : ℕ) (before after : List ℕ)
    → ((u : ℕ) → u < i → IsLabelOf g low u (label_of before u)) → GainsRightLabels g low before after
    → IsLabelOf g low i (label_of after i) → (u : ℕ) → u < i + 1 → IsLabelOf g low u (label_of after u)
passed_one_more g low i before after passed gains here u lt = at (eq-or-lt_of_le (omega arith))
  where
    below : u < i → (label_of after u ≡ label_of before u) ⊎ IsLabelOf g low u (label_of after u)
        → IsLabelOf g low u (label_of after u)
    below less (inl same) = subst (λ l. IsLabelOf g low u l) (sym same) (passed u less)
    below less (inr is) = is

    at : (u ≡ i) ⊎ (u < i) → IsLabelOf g low u (label_of after u)
    at (inl same) = subst (λ w. IsLabelOf g low w (label_of after w)) (sym same) here
    at (inr less) = below less (gains u)

-- a list of right labels is the basin labels
pub all_right : (g : Grid) (low : ℕ) (labels : List ℕ) → length labels ≡ voxel_count g.axes
    → ((v : ℕ) → v < length labels → IsLabelOf g low v (label_of labels v)) → AreBasins g low labels
all_right g low labels len right = are_basins_from g low labels len (λ v lt.
    right v (subst (λ n. v < n) (sym len) lt) (basin_labels g low) (basin_labels_are g low) ∙ basin_labels_at g low v lt)

pub basins_fit : (g : Grid) (low : ℕ) (labels : List ℕ) → IsWhole g → AreBasins g low labels
    → (v : ℕ) → v < length labels → label_of labels v ≤ 2 ^ 28
basins_fit g low labels whole are v lt = le_trans (label-le g low labels are v) whole.limits.most_voxels
