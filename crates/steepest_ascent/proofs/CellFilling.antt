-- The ends of a cell's voxels, as they are filled in along an ascent.
use Rattle.std.proofs.Common.{◌≡◌, ◌≢◌, ℕ, ◌<◌, ◌≤◌, ◌^◌, ◌⊎◌, Bool, true, false, IsTrue, List, length, set, Option, Some, None, sum_by, refl, sym, ◌∙◌, ap, subst, inl, inr, arith, get_or-set_same, get_or-set_other}
use Rattle.std.proofs.lemmas.List.Sums.{sum_by-set}
use Rattle.std.proofs.lemmas.Bool.{cases_eq, false≢true}
use Rattle.agglo_model.specs.Axes.{Axes, AreEnds}
use Rattle.agglo_model.specs.Grid.{Grid, IsWhole}
use Rattle.agglo_model.specs.EdgeOrder.{IsBest}
use Rattle.agglo_model.proofs.Edges.{higher_end_below, lower_below_higher}
use Rattle.agglo_model.proofs.BestEdge.{best_unique}
use Rattle.agglo_model.proofs.Ascent.{far_end_is}
use Rattle.edge_order.specs.Steps.{IsBestStep, LeadsTo, edge_at}
use Rattle.edge_order.proofs.Steps.{edge_of_best, leads_across}
use Rattle.edge_order.specs.declared.step.Step.{Step}
use Rattle.edge_order.specs.declared.step.Step.TheVariants.{Stay, BackX, BackY, BackZ, OnX, OnY, OnZ}
use Rattle.seg_base.specs.declared.cell.Cell.{Cell}
use Rattle.steepest_ascent.specs.CellEnds.{IsInCell, IsEndOf, Stays, Ends, Leaves, Climbs, end_at}
use Rattle.steepest_ascent.specs.Charts.{Chart, IsEndAt, AreEndsSoFar, GainsEnds, StaysWithin}
use Rattle.steepest_ascent.specs.CellTurns.{ClimbsWithin, IsSpot}
use Rattle.steepest_ascent.specs.declared.cell_ascent.Spot.{Spot}
use Rattle.steepest_ascent.specs.Turns.{EndsWith}
use Rattle.steepest_ascent.specs.declared.ends.End.{End}
use Rattle.steepest_ascent.specs.declared.ends.End.TheVariants.{Background, Root, Exit}

-- the far ends of the best edge of a voxel are one voxel
same_far : (g : Grid) (low v w u e f : ℕ) → IsBest g low v e → IsBest g low v f → AreEnds g.axes e v w
    → AreEnds g.axes f v u → w ≡ u
same_far g low v w u e f b c p q =
    let is : f ≡ e = best_unique g low v f e c b in
    let q' : AreEnds g.axes e v u = subst (λ d. AreEnds g.axes d v u) is q in
    sym (far_end_is g.axes e v w b.strong.edge p) ∙ far_end_is g.axes e v u b.strong.edge q'

-- where the ascent ends, it ends from the far end too
turned_ends : (g : Grid) (low v name : ℕ) (h : EndsWith g low v name) → EndsWith g low h.far name
turned_ends g low v name h = record {
  edge = h.edge;
  far = v;
  best = h.both;
  ends = flipped h.ends;
  both = h.best;
  name_is = h.name_is;
}
  where
    flipped : AreEnds g.axes h.edge v h.far → AreEnds g.axes h.edge h.far v
    flipped (inl p) = inr p
    flipped (inr p) = inl p

-- where the best edge does not leave the cell, its far end has the same end
pub end_on : {g : Grid} {low : ℕ} {cell : Cell} {v : ℕ} {end : End} (w e : ℕ) → IsBest g low v e → AreEnds g.axes e v w
    → IsInCell g.axes cell w → IsEndOf g low cell v end → IsEndOf g low cell w end
end_on {g} {low} {cell} w e b ends inside (Stays none) = absurd (none e b)
end_on {g} {low} {cell} w e b ends inside (Ends {v} {name} h) =
    subst (λ x. IsEndOf g low cell x (Root name)) (same_far g low v h.far w h.edge e h.best b h.ends ends)
    (Ends (turned_ends g low v name h))
end_on {g} {low} {cell} w e b ends inside (Leaves {v} {w = u} h out) =
    absurd (out (subst (λ x. IsInCell g.axes cell x) (same_far g low v w u e h.edge b h.best ends h.ends) inside))
end_on {g} {low} {cell} w e b ends inside (Climbs {v} {w = u} {end} h in_cell is) =
    subst (λ x. IsEndOf g low cell x end) (same_far g low v u w h.edge e h.best b h.ends ends) is

pub climb_end : (t : Chart) (here next : Spot) (end : End) → ClimbsWithin t here next
    → IsEndOf t.grid t.low t.cell next.voxel end → IsEndOf t.grid t.low t.cell here.voxel end
climb_end t here next end h is = Climbs h.climbs h.inside is

-- an end by the voxel's number in the volume
pub end_of_spot : (t : Chart) (spot : Spot) (end : End) → IsSpot t spot → IsEndAt t spot.own end
    → IsEndOf t.grid t.low t.cell spot.voxel end
end_of_spot t spot end at is = subst (λ v. IsEndOf t.grid t.low t.cell v end) at.same is

pub end_at_spot : (t : Chart) (spot : Spot) (end : End) → IsSpot t spot
    → IsEndOf t.grid t.low t.cell spot.voxel end → IsEndAt t spot.own end
end_at_spot t spot end at is = subst (λ v. IsEndOf t.grid t.low t.cell v end) (sym at.same) is

-- a step without an edge stays
stays_there : (a : Axes) (v w : ℕ) (s : Step) → LeadsTo a v s w → edge_at a v s ≡ None → w ≡ v
stays_there a v w Stay leads none = leads
stays_there a v w BackX leads none = absurd (cc)
stays_there a v w BackY leads none = absurd (cc)
stays_there a v w BackZ leads none = absurd (cc)
stays_there a v w OnX leads none = absurd (cc)
stays_there a v w OnY leads none = absurd (cc)
stays_there a v w OnZ leads none = absurd (cc)

-- the far end of a step has the same end
pub end_along : (t : Chart) (v w : ℕ) (s : Step) (end : End) → IsBestStep t.grid t.low v s → LeadsTo t.grid.axes v s w
    → IsInCell t.grid.axes t.cell w → IsEndOf t.grid t.low t.cell v end → IsEndOf t.grid t.low t.cell w end
end_along t v w s end best leads inside is = pick (edge_at t.grid.axes v s) refl
  where
    pick : (o : Option ℕ) → edge_at t.grid.axes v s ≡ o → IsEndOf t.grid t.low t.cell w end
    pick None none = subst (λ u. IsEndOf t.grid t.low t.cell u end) (sym (stays_there t.grid.axes v w s leads none)) is
    pick (Some e) edge = end_on w e (edge_of_best t.grid t.low v e s best edge) (leads_across t.grid.axes v w e s leads edge) inside is

-- how many entries are Background
abbrev pub unknown : End → ℕ
unknown Background = 1
unknown (Root name) = 0
unknown (Exit w) = 0

unknown_not : (end : End) → end ≢ Background → unknown end ≡ 0
unknown_not Background ne = absurd (ne refl)
unknown_not (Root name) ne = refl
unknown_not (Exit w) ne = refl

pub fewer_unknown : (ends : List End) (i : ℕ) (end : End) → i < length ends → end_at ends i ≡ Background
    → end ≢ Background → sum_by unknown (set ends i end) < sum_by unknown ends
fewer_unknown ends i end lt none known =
    let one : unknown (end_at ends i) ≡ 1 = ap unknown none in
    let zero_more = unknown_not end known in
    omega (arith, sum_by-set unknown ends i end Background lt)

-- an answer that there is none, or that there is one
pub told_known : (b : Bool) (P : Type 0) → b ≡ false → (P → IsTrue b) → P → ⊥
told_known b P is told p = let t : b ≡ true = told p in false≢true (sym is ∙ t)

-- an end that is there is right
pub end_there : (t : Chart) (i : ℕ) (ends : List End) → AreEndsSoFar t ends → end_at ends i ≢ Background
    → IsEndAt t i (end_at ends i)
end_there t i ends right ne = elim (right i) [ inl none ↦ absurd (ne none) | inr is ↦ is ]

-- a write of the right end
pub given_end : (ends : List End) (i j : ℕ) (end : End) → j < length ends → end_at ends i ≡ end
    → end_at (set ends j end) i ≡ end
given_end ends i j end lt is = elim (cases_eq i j) [
  | inl same ↦ ap (end_at (set ends j end)) same ∙ get_or-set_same ends j end Background lt
  | inr ne ↦ get_or-set_other ends j i end Background ne ∙ is
]

pub gains_end : (t : Chart) (before ends : List End) (j : ℕ) (end : End) → j < length ends → GainsEnds t before ends
    → IsEndAt t j end → end ≢ Background → GainsEnds t before (set ends j end)
gains_end t before ends j end lt gains is known i = pick (cases_eq i j)
  where
    here : end_at (set ends j end) j ≡ end
    here = get_or-set_same ends j end Background lt

    pick : (i ≡ j) ⊎ (i ≢ j) → (end_at (set ends j end) i ≡ end_at before i)
        ⊎ (IsEndAt t i (end_at (set ends j end) i) × (end_at (set ends j end) i ≢ Background))
    pick (inl same) = inr (
      subst (λ k. IsEndAt t k (end_at (set ends j end) k)) (sym same) (subst (λ e. IsEndAt t j e) (sym here) is),
      subst (λ k. end_at (set ends j end) k ≢ Background) (sym same) (subst (λ e. e ≢ Background) (sym here) known),
    )
    pick (inr ne) = subst
        (λ e. (e ≡ end_at before i) ⊎ (IsEndAt t i e × (e ≢ Background)))
        (sym (get_or-set_other ends j i end Background ne)) (gains i)

-- what was so stays so
pub gains_none : (t : Chart) (ends : List End) → GainsEnds t ends ends
gains_none t ends i = inl (λ k. end_at ends i)

pub gains_both : (t : Chart) (before between after : List End) → GainsEnds t before between
    → GainsEnds t between after → GainsEnds t before after
gains_both t before between after first second i = pick (first i) (second i)
  where
    pick : (end_at between i ≡ end_at before i) ⊎ (IsEndAt t i (end_at between i) × (end_at between i ≢ Background))
        → (end_at after i ≡ end_at between i) ⊎ (IsEndAt t i (end_at after i) × (end_at after i ≢ Background))
        → (end_at after i ≡ end_at before i) ⊎ (IsEndAt t i (end_at after i) × (end_at after i ≢ Background))
    pick old (inr new) = inr new
    pick (inl old) (inl same) = inl (same ∙ old)
    pick (inr new) (inl same) = inr (subst (λ e. IsEndAt t i e × (e ≢ Background)) (sym same) new)

pub so_far_stays : (t : Chart) (before after : List End) → AreEndsSoFar t before → GainsEnds t before after
    → AreEndsSoFar t after
so_far_stays t before after right gains i = pick (gains i) (right i)
  where
    pick : (end_at after i ≡ end_at before i) ⊎ (IsEndAt t i (end_at after i) × (end_at after i ≢ Background))
        → (end_at before i ≡ Background) ⊎ IsEndAt t i (end_at before i)
        → (end_at after i ≡ Background) ⊎ IsEndAt t i (end_at after i)
    pick (inl same) (inl none) = inl (same ∙ none)
    pick (inl same) (inr is) = inr (subst (λ e. IsEndAt t i e) (sym same) is)
    pick (inr is) old = inr is.0

pub known_stays : (t : Chart) (before after : List End) (i : ℕ) → GainsEnds t before after
    → end_at before i ≢ Background → end_at after i ≢ Background
known_stays t before after i gains known = elim (gains i) [
  | inl same ↦ subst (λ e. e ≢ Background) (sym same) known
  | inr is ↦ is.1
]

pub none_before : (t : Chart) (before after : List End) (i : ℕ) → GainsEnds t before after
    → end_at after i ≡ Background → end_at before i ≡ Background
none_before t before after i gains none = elim (gains i) [
  | inl same ↦ sym same ∙ none
  | inr is ↦ absurd (is.1 none)
]

pub within_stays : (t : Chart) (before after : List End) (i : ℕ) → GainsEnds t before after
    → StaysWithin t before i → StaysWithin t after i
within_stays t before after i gains within none = within (none_before t before after i gains none)

-- a voxel whose end was looked for has it, where that is Background too
pub end_settled : (t : Chart) (i : ℕ) (ends : List End) → AreEndsSoFar t ends → IsEndAt t i Background
    → IsEndAt t i (end_at ends i)
end_settled t i ends right none = elim (right i) [
  | inl is ↦ subst (λ e. IsEndAt t i e) (sym is) none
  | inr is ↦ is
]

-- an end that was given stays
pub end_stays : (t : Chart) (i : ℕ) (before after : List End) → GainsEnds t before after
    → IsEndAt t i (end_at before i) → IsEndAt t i (end_at after i)
end_stays t i before after gains is = elim (gains i) [
  | inl same ↦ subst (λ e. IsEndAt t i e) (sym same) is
  | inr new ↦ new.0
]

-- the voxel that was given its end has one
pub given_known : (ends : List End) (i j : ℕ) (end : End) → j < length ends → end ≢ Background
    → (j ≡ i) ⊎ (end_at ends i ≢ Background) → end_at (set ends j end) i ≢ Background
given_known ends i j end lt known before = pick (cases_eq i j) before
  where
    pick : (i ≡ j) ⊎ (i ≢ j) → (j ≡ i) ⊎ (end_at ends i ≢ Background) → end_at (set ends j end) i ≢ Background
    pick (inl same) any = subst (λ k. end_at (set ends j end) k ≢ Background) (sym same)
        (subst (λ e. e ≢ Background) (sym (get_or-set_same ends j end Background lt)) known)
    pick (inr ne) (inl same) = absurd (ne (sym same))
    pick (inr ne) (inr was) = subst (λ e. e ≢ Background) (sym (get_or-set_other ends j i end Background ne)) was

-- a basin's name is no greater than the number of voxels
pub name_fits : (g : Grid) (low v name : ℕ) → IsWhole g → EndsWith g low v name → name ≤ 2 ^ 28
name_fits g low v name whole h =
    let less = lower_below_higher g.axes h.edge h.best.strong.edge in
    let top = higher_end_below g.axes h.edge h.best.strong.edge in
    omega (arith, h.name_is, whole.limits.most_voxels)

pub root_known : (name : ℕ) → Root name ≢ Background
root_known name is = cc
