-- Basins are connected: from each voxel a path leads to the voxel that names the basin.
use Rattle.std.proofs.Common.{◌≡◌, ◌≢◌, inl, inr, ℕ, zero, suc, ◌-◌, ◌<◌, ◌≤◌, List, refl, sym, subst, arith}
use Rattle.std.proofs.lemmas.Bool.{cases_lt}
use Rattle.std.proofs.lemmas.List.{get_or_past}
use Rattle.agglo_model.specs.Axes.{AreEnds, voxel_count}
use Rattle.agglo_model.specs.Grid.{Grid}
use Rattle.agglo_model.specs.EdgeOrder.{IsBest}
use Rattle.agglo_model.specs.Basins.{label_of, AreBasins}
use Rattle.agglo_model.specs.NodeLaws.{BasinsAreConnected}
use Rattle.agglo_model.proofs.Ascent.{Stays, Roots, Climbs, ascent_of, Within, no_step, within_next, within_all, enough_steps}
use Rattle.agglo_model.proofs.BasinLabels.{label_across, label_at_root, end_below}
use Rattle.agglo_model.proofs.Paths.{AreJoined, joined_here, joined_by, joined_then, joined_back}

-- a path to the voxel that names the basin
abbrev LeadsToName : Grid → List ℕ → ℕ → Type 0
LeadsToName g labels v = AreJoined g.axes labels (label_of labels v) v (label_of labels v - 1)

-- one best edge before such a path
leads_across : (g : Grid) (low : ℕ) (labels : List ℕ) → AreBasins g low labels → (v w e : ℕ) → IsBest g low v e
    → AreEnds g.axes e v w → LeadsToName g labels w → LeadsToName g labels v
leads_across g low labels are v w e b ends rest =
    let same = label_across g low labels are v w e b ends in
    joined_by g.axes labels (label_of labels v) v w (label_of labels v - 1) refl (e, b.strong.edge, ends)
    (subst (λ x. AreJoined g.axes labels x w (x - 1)) (sym same) rest)

-- at a root the lower end is the voxel that names the basin
leads_from_root : (g : Grid) (low : ℕ) (labels : List ℕ) → AreBasins g low labels → (v w e : ℕ)
    → AreEnds g.axes e v w → IsBest g low v e → IsBest g low w e → LeadsToName g labels v
leads_from_root g low labels are v w e (inl (l, h)) b c =
    let name = label_at_root g low labels are v w e (inl (l, h)) b c in
    let here : v ≡ label_of labels v - 1 = omega (arith, name, l) in
    subst (AreJoined g.axes labels (label_of labels v) v) here (joined_here g.axes labels (label_of labels v) v refl)
leads_from_root g low labels are v w e (inr (l, h)) b c =
    leads_across g low labels are v w e b (inr (l, h))
    (let name = label_at_root g low labels are w v e (inl (l, h)) c b in
    let here : w ≡ label_of labels w - 1 = omega (arith, name, l) in
    subst (AreJoined g.axes labels (label_of labels w) w) here (joined_here g.axes labels (label_of labels w) w refl))

leads : (g : Grid) (low : ℕ) (labels : List ℕ) → AreBasins g low labels → (k v : ℕ) → v < voxel_count g.axes
    → Within g low k v → label_of labels v ≢ 0 → LeadsToName g labels v
leads g low labels are zero v lt within some =
    absurd (some ((are.background v lt).1 (no_step g low v within)))
leads g low labels are (suc k) v lt within some = elim (ascent_of g low v) [
  | Stays h ↦ absurd (some ((are.background v lt).1 h))
  | Roots e w b ends c ↦ leads_from_root g low labels are v w e ends b c
  | Climbs e w f b ends c ne ↦ leads_across g low labels are v w e b ends
      (leads g low labels are k w (end_below g low v w e b ends)
      (within_next g low k v w e f within b ends c ne)
      (subst (λ x. x ≢ 0) (label_across g low labels are v w e b ends) some))
]

-- what has a label is a voxel
pub labelled_voxel : (g : Grid) (low : ℕ) (labels : List ℕ) → AreBasins g low labels → (v : ℕ)
    → label_of labels v ≢ 0 → v < voxel_count g.axes
labelled_voxel g low labels are v some = elim (cases_lt v (voxel_count g.axes)) [
  | inl lt ↦ lt
  | inr le ↦ absurd (some (get_or_past labels v 0 (subst (λ n. n ≤ v) (sym are.one_each) le)))
]

leads_to_name : (g : Grid) (low : ℕ) (labels : List ℕ) → AreBasins g low labels → (v : ℕ) → label_of labels v ≢ 0
    → LeadsToName g labels v
leads_to_name g low labels are v some =
    leads g low labels are (enough_steps g) v (labelled_voxel g low labels are v some) (within_all g low v) some

pub basins_are_connected : BasinsAreConnected
basins_are_connected g low labels are v w some same =
    let x = label_of labels v in
    let from = leads_to_name g low labels are v some in
    let to = leads_to_name g low labels are w (subst (λ y. y ≢ 0) (sym same) some) in
    joined_then g.axes labels x v (x - 1) w from
    (joined_back g.axes labels x w (x - 1) (subst (λ y. AreJoined g.axes labels y w (y - 1)) same to))
