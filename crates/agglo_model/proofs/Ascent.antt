-- The ascent from a voxel along best edges, and the name of the basin to which it leads.
use Rattle.std.proofs.Common.{unwrap_or, option_map, ◌≡◌, ◌≢◌, ℕ, zero, suc, ◌+◌, ◌*◌, ◌-◌, ◌<◌, ◌≤◌, ◌⊎◌, ◌↔◌, ◌==◌, if◌then◌else◌, Bool, true, false, IsTrue, sum, Option, Some, None, refl, sym, ◌∙◌, ap, subst, inl, inr, arith, ne_eqb, eq-eqb, mul-le-mul_right}
use Rattle.std.proofs.lemmas.Bool.{cases_eq}
use Rattle.std.proofs.lemmas.Bool.Decides.{nat_tests}
use Rattle.agglo_model.specs.Axes.{Axes, AreEnds, voxel_count, edge_count, is_edge, lower_end, higher_end}
use Rattle.agglo_model.specs.Grid.{Grid, affinity}
use Rattle.agglo_model.specs.EdgeOrder.{EdgeBefore, Meets, IsStrongAt, IsBest, HasNoBest}
use Rattle.agglo_model.proofs.Edges.{edge_is, higher_end_below, lower_below_higher}
use Rattle.agglo_model.proofs.BestEdge.{best_unique, best_of_strong, height, height_falls, affinity-le-sum, best_of, has_best, best_of_none, best_of_some, no_strong_no_best}

-- the end of an edge that is not v
abbrev pub far_end : Axes → ℕ → ℕ → ℕ
far_end a e v = if higher_end e == v then lower_end a e else higher_end e

pub far_end_is : (a : Axes) (e v w : ℕ) → IsTrue (is_edge a e) → AreEnds a e v w → far_end a e v ≡ w
far_end_is a e v w t ends = pick (lower_end a e) (higher_end e) (lower_below_higher a e t) ends
  where
    pick : (l h : ℕ) → l < h → ((l ≡ v) × (h ≡ w)) ⊎ ((l ≡ w) × (h ≡ v)) → (if h == v then l else h) ≡ w
    pick l h lt or = grind (arith, nat_tests)

pub far_end_ends : (a : Axes) (e v : ℕ) → (lower_end a e ≡ v) ⊎ (higher_end e ≡ v) → IsTrue (is_edge a e)
    → AreEnds a e v (far_end a e v)
far_end_ends a e v m t = pick (lower_end a e) (higher_end e) (lower_below_higher a e t) m
  where
    pick : (l h : ℕ) → l < h → (l ≡ v) ⊎ (h ≡ v) → ((l ≡ v) × (h ≡ (if h == v then l else h))) ⊎ ((l ≡ (if h == v then l else h)) × (h ≡ v))
    pick l h lt or = grind (arith, nat_tests)

pub strong_across : (g : Grid) (low e v w : ℕ) → AreEnds g.axes e v w → IsStrongAt g low v e
    → IsStrongAt g low w e
strong_across g low e v w ends s = record { edge = s.edge; meets = turned ends; strong = s.strong }
  where
    turned : AreEnds g.axes e v w → Meets g w e
    turned (inl p) = inr p.1
    turned (inr p) = inl p.0

-- where the best edges of both ends differ, the far end's comes before
pub next_before : (g : Grid) (low v w e f : ℕ) → IsBest g low v e → AreEnds g.axes e v w
    → IsBest g low w f → f ≢ e → EdgeBefore g f e
next_before g low v w e f b ends c ne =
    c.first e (strong_across g low e v w ends b.strong) (λ is. ne (sym is))

-- how the ascent goes on from a voxel
pub data Ascent (g : Grid) (low v : ℕ) : Type 0 where
  Stays : HasNoBest g low v → Ascent g low v
  Roots : (e w : ℕ) → IsBest g low v e → AreEnds g.axes e v w → IsBest g low w e → Ascent g low v
  Climbs : (e w f : ℕ) → IsBest g low v e → AreEnds g.axes e v w → IsBest g low w f → f ≢ e
      → Ascent g low v

pub ascent_of : (g : Grid) (low v : ℕ) → Ascent g low v
ascent_of g low v = first (has_best g low v)
  where
    second : (e f : ℕ) → IsBest g low v e → IsBest g low (far_end g.axes e v) f → (f ≡ e) ⊎ (f ≢ e) → Ascent g low v
    second e f b c (inl same) = Roots e (far_end g.axes e v) b
        (far_end_ends g.axes e v b.strong.meets b.strong.edge) (subst (λ z. IsBest g low (far_end g.axes e v) z) same c)
    second e f b c (inr ne) = Climbs e (far_end g.axes e v) f b
        (far_end_ends g.axes e v b.strong.meets b.strong.edge) c ne

    first : ((e : ℕ) → ¬ (IsStrongAt g low v e)) ⊎ ((e : ℕ) × IsBest g low v e) → Ascent g low v
    first (inl weak) = Stays (no_strong_no_best g low v weak)
    first (inr (e, b)) =
        let s = strong_across g low e v (far_end g.axes e v) (far_end_ends g.axes e v b.strong.meets b.strong.edge) b.strong in
        elim (has_best g low (far_end g.axes e v)) [
          | inl weak ↦ absurd (weak e s)
          | inr c ↦ second e c.0 b c.1 (cases_eq c.0 e)
        ]

-- the best edge of w is e
abbrev pub is_best : Option ℕ → ℕ → Bool
is_best None e = false
is_best (Some f) e = f == e

abbrev pub end_or : Bool → ℕ → (ℕ → ℕ) → ℕ → ℕ
end_or true name on w = name
end_or false name on w = on w

abbrev pub one_step : Grid → ℕ → ℕ → Option ℕ → (ℕ → ℕ) → ℕ
one_step g low v None on = 0
one_step g low v (Some e) on =
    end_or (is_best (best_of g low (far_end g.axes e v)) e) (lower_end g.axes e + 1) on (far_end g.axes e v)

-- the name of the basin that the ascent from v reaches within k steps
unfoldable pub climb : Grid → ℕ → ℕ → ℕ → ℕ
climb g low zero v = 0
climb g low (suc k) v = one_step g low v (best_of g low v) (climb g low k)

pub climb_none : (g : Grid) (low k v : ℕ) → HasNoBest g low v → climb g low k v ≡ 0
unfolding climb
climb_none g low zero v h = refl
climb_none g low (suc k) v h = ap (λ o. one_step g low v o (climb g low k)) (best_of_none g low v h)

at_edge : (g : Grid) (low k v w e f : ℕ) → IsBest g low v e → AreEnds g.axes e v w → IsBest g low w f
    → climb g low (suc k) v ≡ end_or (f == e) (lower_end g.axes e + 1) (climb g low k) w
unfolding climb
at_edge g low k v w e f b ends c =
    ap (λ o. one_step g low v o (climb g low k)) (best_of_some g low v e b)
    ∙ ap (λ u. end_or (is_best (best_of g low u) e) (lower_end g.axes e + 1) (climb g low k) u)
    (far_end_is g.axes e v w b.strong.edge ends)
    ∙ ap (λ o. end_or (is_best o e) (lower_end g.axes e + 1) (climb g low k) w) (best_of_some g low w f c)

pub climb_root : (g : Grid) (low k v w e : ℕ) → IsBest g low v e → AreEnds g.axes e v w → IsBest g low w e
    → climb g low (suc k) v ≡ lower_end g.axes e + 1
climb_root g low k v w e b ends c = at_edge g low k v w e e b ends c
    ∙ ap (λ t. end_or t (lower_end g.axes e + 1) (climb g low k) w) (eq-eqb e e refl)

pub climb_on : (g : Grid) (low k v w e f : ℕ) → IsBest g low v e → AreEnds g.axes e v w → IsBest g low w f
    → f ≢ e → climb g low (suc k) v ≡ climb g low k w
climb_on g low k v w e f b ends c ne = at_edge g low k v w e f b ends c
    ∙ ap (λ t. end_or t (lower_end g.axes e + 1) (climb g low k) w) (ne_eqb f e ne)

-- a height that falls with each step of an ascent, and a number above all heights
abbrev pub step_height : Grid → ℕ → ℕ
step_height g e = height (sum g.bytes) g e

abbrev pub enough_steps : Grid → ℕ
enough_steps g = (sum g.bytes + 1) * edge_count g.axes

pub steps_suffice : (g : Grid) (e : ℕ) → e < edge_count g.axes → step_height g e < enough_steps g
steps_suffice g e lt = under (sum g.bytes) (affinity g e) (edge_count g.axes) e lt
  where
    under : (s a n e : ℕ) → e < n → (s - a) * n + e < (s + 1) * n
    under s a n e less = let m : s - a ≤ s = omega arith in omega (arith, mul-le-mul_right n m)

-- the ascent from v takes fewer than k steps
abbrev pub Within : Grid → ℕ → ℕ → ℕ → Type 0
Within g low k v = (e : ℕ) → IsBest g low v e → step_height g e < k

pub within_next : (g : Grid) (low k v w e f : ℕ) → Within g low (suc k) v → IsBest g low v e
    → AreEnds g.axes e v w → IsBest g low w f → f ≢ e → Within g low k w
within_next g low k v w e f within b ends c ne h d =
    let is : f ≡ h = best_unique g low w f h c d in
    let falls = height_falls (sum g.bytes) g e f (affinity-le-sum g f) (edge_is g.axes f c.strong.edge).numbered
    (next_before g low v w e f b ends c ne) in
    let was = within e b in
    subst (λ z. step_height g z < k) is (omega arith)

pub no_step : (g : Grid) (low v : ℕ) → Within g low 0 v → HasNoBest g low v
no_step g low v p e b = let h = p e b in absurd (omega arith)

pub climb_settles : (g : Grid) (low k j v : ℕ) → Within g low k v → Within g low j v
    → climb g low k v ≡ climb g low j v
climb_settles g low zero j v p q =
    climb_none g low 0 v (no_step g low v p) ∙ sym (climb_none g low j v (no_step g low v p))
climb_settles g low (suc k) zero v p q =
    climb_none g low (suc k) v (no_step g low v q) ∙ sym (climb_none g low 0 v (no_step g low v q))
climb_settles g low (suc k) (suc j) v p q = elim (ascent_of g low v) [
  | Stays h ↦ climb_none g low (suc k) v h ∙ sym (climb_none g low (suc j) v h)
  | Roots e w b ends c ↦ climb_root g low k v w e b ends c ∙ sym (climb_root g low j v w e b ends c)
  | Climbs e w f b ends c ne ↦ climb_on g low k v w e f b ends c ne
      ∙ climb_settles g low k j w (within_next g low k v w e f p b ends c ne) (within_next g low j v w e f q b ends c ne)
      ∙ sym (climb_on g low j v w e f b ends c ne)
]

-- the name of the basin that a voxel belongs to, or 0
unfoldable pub basin_name : Grid → ℕ → ℕ → ℕ
basin_name g low v = climb g low (enough_steps g) v

pub within_all : (g : Grid) (low v : ℕ) → Within g low (enough_steps g) v
within_all g low v e b = steps_suffice g e (edge_is g.axes e b.strong.edge).numbered

within_more : (g : Grid) (low v : ℕ) → Within g low (suc (enough_steps g)) v
within_more g low v e b = let h = within_all g low v e b in omega arith

pub climb_is_name : (g : Grid) (low k v : ℕ) → Within g low k v → climb g low k v ≡ basin_name g low v
unfolding basin_name
climb_is_name g low k v h = climb_settles g low k (enough_steps g) v h (within_all g low v)

one_more : (g : Grid) (low v : ℕ) → basin_name g low v ≡ climb g low (suc (enough_steps g)) v
one_more g low v = sym (climb_is_name g low (suc (enough_steps g)) v (within_more g low v))

pub basin_name_none : (g : Grid) (low v : ℕ) → HasNoBest g low v → basin_name g low v ≡ 0
basin_name_none g low v h = one_more g low v ∙ climb_none g low (suc (enough_steps g)) v h

pub basin_name_root : (g : Grid) (low v w e : ℕ) → IsBest g low v e → AreEnds g.axes e v w
    → IsBest g low w e → basin_name g low v ≡ lower_end g.axes e + 1
basin_name_root g low v w e b ends c = one_more g low v ∙ climb_root g low (enough_steps g) v w e b ends c

pub basin_name_on : (g : Grid) (low v w e f : ℕ) → IsBest g low v e → AreEnds g.axes e v w
    → IsBest g low w f → f ≢ e → basin_name g low v ≡ basin_name g low w
basin_name_on g low v w e f b ends c ne = one_more g low v
    ∙ climb_on g low (enough_steps g) v w e f b ends c ne
    ∙ climb_is_name g low (enough_steps g) w (within_all g low w)

-- the two ends of an edge in the other order
pub flip_ends : (a : Axes) (e v w : ℕ) → AreEnds a e v w → AreEnds a e w v
flip_ends a e v w (inl p) = inr p
flip_ends a e v w (inr p) = inl p

-- a best edge leads to one name at both its ends
pub basin_name_across : (g : Grid) (low v w e : ℕ) → IsBest g low v e → AreEnds g.axes e v w
    → basin_name g low v ≡ basin_name g low w
basin_name_across g low v w e b ends =
    let c = best_of_strong g low w e (strong_across g low e v w ends b.strong) in
    turn c.0 c.1 (cases_eq c.0 e)
  where
    turn : (f : ℕ) → IsBest g low w f → (f ≡ e) ⊎ (f ≢ e) → basin_name g low v ≡ basin_name g low w
    turn f c (inl same) =
        let d = subst (λ z. IsBest g low w z) same c in
        basin_name_root g low v w e b ends d ∙ sym (basin_name_root g low w v e d (flip_ends g.axes e v w ends) b)
    turn f c (inr ne) = basin_name_on g low v w e f b ends c ne

-- an edge that is the best one at both its ends
pub record IsRoot (g : Grid) (low e : ℕ) : Type 0 where
  pub lower : IsBest g low (lower_end g.axes e) e
  pub higher : IsBest g low (higher_end e) e

pub root_is : (g : Grid) (low e v w : ℕ) → AreEnds g.axes e v w → IsBest g low v e → IsBest g low w e
    → IsRoot g low e
root_is g low e v w (inl (l, h)) b c = record {
  lower = subst (λ z. IsBest g low z e) (sym l) b;
  higher = subst (λ z. IsBest g low z e) (sym h) c;
}
root_is g low e v w (inr (l, h)) b c = record {
  lower = subst (λ z. IsBest g low z e) (sym l) c;
  higher = subst (λ z. IsBest g low z e) (sym h) b;
}

-- a property of the names that an ascent can end in
climb_ends : (g : Grid) (low : ℕ) (P : ℕ → Type 0)
    → ((e : ℕ) → IsRoot g low e → P (lower_end g.axes e + 1))
    → (k v e : ℕ) → Within g low k v → IsBest g low v e → P (climb g low k v)
climb_ends g low P here zero v e within b = absurd (no_step g low v within e b)
climb_ends g low P here (suc k) v e within b = elim (ascent_of g low v) [
  | Stays h ↦ absurd (h e b)
  | Roots r w c ends d ↦
      subst P (sym (climb_root g low k v w r c ends d)) (here r (root_is g low r v w ends c d))
  | Climbs r w f c ends d ne ↦ subst P (sym (climb_on g low k v w r f c ends d ne))
      (climb_ends g low P here k w f (within_next g low k v w r f within c ends d ne) d)
]

pub name_ends : (g : Grid) (low : ℕ) (P : ℕ → Type 0)
    → ((e : ℕ) → IsRoot g low e → P (lower_end g.axes e + 1))
    → (v e : ℕ) → IsBest g low v e → P (basin_name g low v)
name_ends g low P here v e b = subst P (climb_is_name g low (enough_steps g) v (within_all g low v))
    (climb_ends g low P here (enough_steps g) v e (within_all g low v) b)

-- the name is 0 exactly where no best edge is
pub basin_name_some : (g : Grid) (low v e : ℕ) → IsBest g low v e → 0 < basin_name g low v
basin_name_some g low v e b = name_ends g low (λ x. 0 < x) (λ r root. omega arith) v e b

pub basin_name_zero : (g : Grid) (low v : ℕ) → (basin_name g low v ≡ 0) ↔ HasNoBest g low v
basin_name_zero g low v =
    ((λ is e b. let h = basin_name_some g low v e b in omega arith), basin_name_none g low v)

-- a name is the number of a voxel, plus 1
pub basin_name-le : (g : Grid) (low v : ℕ) → basin_name g low v ≤ voxel_count g.axes
basin_name-le g low v = elim (has_best g low v) [
  | inl weak ↦ rw (basin_name_none g low v (no_strong_no_best g low v weak)) (omega arith)
  | inr best ↦ name_ends g low (λ x. x ≤ voxel_count g.axes) below v best.0 best.1
]
  where
    below : (e : ℕ) → IsRoot g low e → lower_end g.axes e + 1 ≤ voxel_count g.axes
    below e root =
        let p = lower_below_higher g.axes e root.lower.strong.edge in
        let q = higher_end_below g.axes e root.lower.strong.edge in
        omega arith

-- and that voxel has the name too
pub name_at_root : (g : Grid) (low e : ℕ) → IsRoot g low e
    → basin_name g low (lower_end g.axes e) ≡ lower_end g.axes e + 1
name_at_root g low e root =
    basin_name_root g low (lower_end g.axes e) (higher_end e) e root.lower (inl (refl, refl)) root.higher

pub basin_name_named : (g : Grid) (low v e : ℕ) → IsBest g low v e
    → basin_name g low (basin_name g low v - 1) ≡ basin_name g low v
basin_name_named g low v e b = name_ends g low (λ x. basin_name g low (x - 1) ≡ x) here v e b
  where
    here : (r : ℕ) → IsRoot g low r → basin_name g low (lower_end g.axes r + 1 - 1) ≡ lower_end g.axes r + 1
    here r root =
        let h = name_at_root g low r root in
        let is : lower_end g.axes r + 1 - 1 ≡ lower_end g.axes r = omega arith in
        ap (basin_name g low) is ∙ h

-- how high a voxel stands: a number that falls along every ascent where no affinity is above `top`
unfoldable pub standing : ℕ → Grid → ℕ → ℕ → ℕ
standing top g low v = unwrap_or (option_map (λ e. height top g e + 1) (best_of g low v)) 0

pub standing_at : (top : ℕ) (g : Grid) (low v e : ℕ) → IsBest g low v e → standing top g low v ≡ height top g e + 1
unfolding standing
standing_at top g low v e b = ap (λ o. unwrap_or (option_map (λ f. height top g f + 1) o) 0) (best_of_some g low v e b)

pub standing_falls : (top : ℕ) (g : Grid) (low v w e f : ℕ) → ((k : ℕ) → affinity g k ≤ top)
    → IsBest g low v e → AreEnds g.axes e v w → IsBest g low w f → f ≢ e
    → standing top g low w < standing top g low v
standing_falls top g low v w e f most b ends c ne =
    let falls = height_falls top g e f (most f) (edge_is g.axes f c.strong.edge).numbered
    (next_before g low v w e f b ends c ne) in
    let here = standing_at top g low v e b in
    let there = standing_at top g low w f c in
    omega arith
