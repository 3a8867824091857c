-- Worked examples: tests that compute whether a list has each property of basin labels.
use Rattle.std.proofs.Common.{◌≡◌, ℕ, zero, suc, ◌+◌, ◌<◌, ◌⊎◌, ◌↔◌, ◌==◌, ◌&&◌, nat_lt, Bool, true, cond, List, [], ◌∷◌, Option, Some, None, MatchOption, refl, sym, ◌∙◌, ap, ap₂, subst, inl, inr, arith, eq-eqb, eqb-true, ltb-true, lit<, eq-or-lt_of_le}
use Rattle.std.proofs.lemmas.Bool.{and_parts, eqb-false}
use Rattle.agglo_model.specs.Axes.{voxel_count, lower_end, higher_end}
use Rattle.agglo_model.specs.Grid.{Grid}
use Rattle.agglo_model.specs.EdgeOrder.{IsBest, HasNoBest}
use Rattle.agglo_model.specs.Basins.{label_of, AreBasins, BackgroundIsUnlabelled, LabelsAgreeAlong, RootsNameBasins}
use Rattle.agglo_model.specs.Examples.{one_edge, two_basins, plateau, three_basins, two_arms, labels_on_background, labels_of_halves, labels_by_higher}
use Rattle.agglo_model.proofs.Edges.{higher_end_below, lower_below_higher}
use Rattle.agglo_model.proofs.BestEdge.{best_of, best_of_some, best_of_none, best_of_answers, has_best, no_strong_no_best, HasNoStrong}
use Rattle.agglo_model.proofs.Ascent.{climb, basin_name, is_best}
use Rattle.agglo_model.proofs.BasinLabels.{basin_labels, basin_labels_are}

-- all numbers below n pass
abbrev all_below : (ℕ → Bool) → ℕ → Bool
all_below p zero = true
all_below p (suc n) = p n && all_below p n

all_below_at : (p : ℕ → Bool) (n v : ℕ) → all_below p n ≡ true → v < n → p v ≡ true
all_below_at p zero v t lt = absurd (omega arith)
all_below_at p (suc n) v t lt = pick (all_below_at p n v both.1) (eq-or-lt_of_le (omega arith))
  where
    both : (p n ≡ true) × (all_below p n ≡ true)
    both = and_parts (p n) (all_below p n) t

    pick : (v < n → p v ≡ true) → (v ≡ n) ⊎ (v < n) → p v ≡ true
    pick rest (inl is) = subst (λ u. p u ≡ true) (sym is) both.0
    pick rest (inr less) = rest less

best_from : (g : Grid) (low v e : ℕ) → best_of g low v ≡ Some e → IsBest g low v e
best_from g low v e is =
    subst (λ o. MatchOption o (HasNoStrong g low v) (λ f. IsBest g low v f)) is (best_of_answers g low v)

none_from : (g : Grid) (low v : ℕ) → best_of g low v ≡ None → HasNoBest g low v
none_from g low v is = no_strong_no_best g low v
    (subst (λ o. MatchOption o (HasNoStrong g low v) (λ f. IsBest g low v f)) is (best_of_answers g low v))

best_below : (g : Grid) (low v e : ℕ) → IsBest g low v e → v < voxel_count g.axes
best_below g low v e b = side b.strong.meets
  where
    side : (lower_end g.axes e ≡ v) ⊎ (higher_end e ≡ v) → v < voxel_count g.axes
    side m = omega (arith, higher_end_below g.axes e b.strong.edge, lower_below_higher g.axes e b.strong.edge)

abbrev unlabelled : List ℕ → ℕ → Option ℕ → Bool
unlabelled labels v None = label_of labels v == 0
unlabelled labels v (Some e) = nat_lt 0 (label_of labels v)

abbrev agree : Grid → List ℕ → Option ℕ → Bool
agree g labels None = true
agree g labels (Some e) = label_of labels (lower_end g.axes e) == label_of labels (higher_end e)

abbrev named : Grid → ℕ → List ℕ → Option ℕ → Bool
named g low labels None = true
named g low labels (Some e) =
    cond (is_best (best_of g low (lower_end g.axes e)) e && is_best (best_of g low (higher_end e)) e)
    (label_of labels (lower_end g.axes e) == lower_end g.axes e + 1) true

background_holds : (g : Grid) (low : ℕ) (labels : List ℕ)
    → all_below (λ v. unlabelled labels v (best_of g low v)) (voxel_count g.axes) ≡ true
    → BackgroundIsUnlabelled g low labels
background_holds g low labels t v lt = told (has_best g low v)
  where
    here : unlabelled labels v (best_of g low v) ≡ true
    here = all_below_at (λ u. unlabelled labels u (best_of g low u)) (voxel_count g.axes) v t lt

    told : HasNoStrong g low v ⊎ ((e : ℕ) × IsBest g low v e) → (label_of labels v ≡ 0) ↔ HasNoBest g low v
    told (inl weak) =
        let none = no_strong_no_best g low v weak in (
          (λ is. none),
          (λ h. eqb-true (label_of labels v) 0
              (subst (λ o. unlabelled labels v o ≡ true) (best_of_none g low v none) here)),
        )
    told (inr best) =
        let pos : 0 < label_of labels v = ltb-true 0 (label_of labels v)
        (subst (λ o. unlabelled labels v o ≡ true) (best_of_some g low v best.0 best.1) here) in
        ((λ is. absurd (omega arith)), (λ h. absurd (h best.0 best.1)))

along_holds : (g : Grid) (low : ℕ) (labels : List ℕ)
    → all_below (λ v. agree g labels (best_of g low v)) (voxel_count g.axes) ≡ true
    → LabelsAgreeAlong g low labels
along_holds g low labels t v e b =
    let here = all_below_at (λ u. agree g labels (best_of g low u)) (voxel_count g.axes) v t (best_below g low v e b) in
    eqb-true (label_of labels (lower_end g.axes e)) (label_of labels (higher_end e))
    (subst (λ o. agree g labels o ≡ true) (best_of_some g low v e b) here)

named_holds : (g : Grid) (low : ℕ) (labels : List ℕ)
    → all_below (λ v. named g low labels (best_of g low v)) (voxel_count g.axes) ≡ true
    → RootsNameBasins g low labels
named_holds g low labels t e b c =
    let v = lower_end g.axes e in
    let here = all_below_at (λ u. named g low labels (best_of g low u)) (voxel_count g.axes) v t (best_below g low v e b) in
    let at : named g low labels (Some e) ≡ true =
    subst (λ o. named g low labels o ≡ true) (best_of_some g low v e b) here in
    let low_is : is_best (best_of g low v) e ≡ true =
    ap (λ o. is_best o e) (best_of_some g low v e b) ∙ eq-eqb e e refl in
    let high_is : is_best (best_of g low (higher_end e)) e ≡ true =
    ap (λ o. is_best o e) (best_of_some g low (higher_end e) e c) ∙ eq-eqb e e refl in
    eqb-true (label_of labels v) (v + 1)
    (subst (λ z. cond z (label_of labels v == v + 1) true ≡ true) (ap₂ (λ x y. x && y) low_is high_is) at)

pub one_edge_is : AreBasins one_edge 7 (1 ∷ 1 ∷ [])
unfolding basin_labels basin_name climb best_of
one_edge_is =
    let is : basin_labels one_edge 7 ≡ (1 ∷ 1 ∷ []) = refl in
    subst (λ l. AreBasins one_edge 7 l) is (basin_labels_are one_edge 7)

pub one_edge_is_weak : AreBasins one_edge 8 (0 ∷ 0 ∷ [])
unfolding basin_labels basin_name climb best_of
one_edge_is_weak =
    let is : basin_labels one_edge 8 ≡ (0 ∷ 0 ∷ []) = refl in
    subst (λ l. AreBasins one_edge 8 l) is (basin_labels_are one_edge 8)

pub two_basins_are : AreBasins two_basins 1 (1 ∷ 1 ∷ 3 ∷ 3 ∷ [])
unfolding basin_labels basin_name climb best_of
two_basins_are =
    let is : basin_labels two_basins 1 ≡ (1 ∷ 1 ∷ 3 ∷ 3 ∷ []) = refl in
    subst (λ l. AreBasins two_basins 1 l) is (basin_labels_are two_basins 1)

pub above_threshold_are : AreBasins two_basins 190 (1 ∷ 1 ∷ 0 ∷ 0 ∷ [])
unfolding basin_labels basin_name climb best_of
above_threshold_are =
    let is : basin_labels two_basins 190 ≡ (1 ∷ 1 ∷ 0 ∷ 0 ∷ []) = refl in
    subst (λ l. AreBasins two_basins 190 l) is (basin_labels_are two_basins 190)

pub plateau_are : AreBasins plateau 1 (1 ∷ 1 ∷ 1 ∷ 1 ∷ [])
unfolding basin_labels basin_name climb best_of
plateau_are =
    let is : basin_labels plateau 1 ≡ (1 ∷ 1 ∷ 1 ∷ 1 ∷ []) = refl in
    subst (λ l. AreBasins plateau 1 l) is (basin_labels_are plateau 1)

abbrev three_labels : List ℕ
three_labels = 1 ∷ 1 ∷ 3 ∷ 3 ∷ 5 ∷ 5 ∷ 1 ∷ 1 ∷ 1 ∷ 1 ∷ 5 ∷ 5 ∷ 1 ∷ 1 ∷ 1 ∷ 1 ∷ 5 ∷ 5 ∷ []

pub three_basins_are : AreBasins three_basins 1 three_labels
unfolding basin_labels basin_name climb best_of
three_basins_are =
    let is : basin_labels three_basins 1 ≡ three_labels = refl in
    subst (λ l. AreBasins three_basins 1 l) is (basin_labels_are three_basins 1)

abbrev arms_labels : List ℕ
arms_labels = 1 ∷ 1 ∷ 1 ∷ 1 ∷ 1 ∷ 6 ∷ 6 ∷ 6 ∷ 1 ∷ 1 ∷ 1 ∷ 1 ∷ []

pub two_arms_are : AreBasins two_arms 1 arms_labels
unfolding basin_labels basin_name climb best_of
two_arms_are =
    let is : basin_labels two_arms 1 ≡ arms_labels = refl in
    subst (λ l. AreBasins two_arms 1 l) is (basin_labels_are two_arms 1)

-- labels on background
pub on_background_along : LabelsAgreeAlong two_basins 190 labels_on_background
unfolding best_of
on_background_along = along_holds two_basins 190 labels_on_background refl

pub on_background_named : RootsNameBasins two_basins 190 labels_on_background
unfolding best_of
on_background_named = named_holds two_basins 190 labels_on_background refl

pub on_background_broken : ¬ BackgroundIsUnlabelled two_basins 190 labels_on_background
unfolding best_of
on_background_broken h =
    eqb-false 4 0 refl ((h 2 (lit< tt)).1 (none_from two_basins 190 2 refl))

-- a basin in two halves
pub halves_background : BackgroundIsUnlabelled two_basins 1 labels_of_halves
unfolding best_of
halves_background = background_holds two_basins 1 labels_of_halves refl

pub halves_named : RootsNameBasins two_basins 1 labels_of_halves
unfolding best_of
halves_named = named_holds two_basins 1 labels_of_halves refl

pub halves_broken : ¬ LabelsAgreeAlong two_basins 1 labels_of_halves
unfolding best_of
halves_broken h =
    eqb-false 1 2 refl (h 0 3 (best_from two_basins 1 0 3 refl))

-- a basin named by the higher voxel
pub by_higher_background : BackgroundIsUnlabelled two_basins 1 labels_by_higher
unfolding best_of
by_higher_background = background_holds two_basins 1 labels_by_higher refl

pub by_higher_along : LabelsAgreeAlong two_basins 1 labels_by_higher
unfolding best_of
by_higher_along = along_holds two_basins 1 labels_by_higher refl

pub by_higher_broken : ¬ RootsNameBasins two_basins 1 labels_by_higher
unfolding best_of
by_higher_broken h =
    eqb-false 4 3 refl (h 9 (best_from two_basins 1 2 9 refl) (best_from two_basins 1 3 9 refl))
