-- Steps, the edges that they take, and where they lead.
use Rattle.std.proofs.Common.{◌≡◌, ◌≢◌, ℕ, zero, suc, ◌+◌, ◌*◌, ◌-◌, ◌/◌, ◌%◌, ◌<◌, ◌==◌, Bool, true, false, Option, Some, MatchOption, refl, sym, ◌∙◌, ap, ap₂, subst, inl, inr, arith, eq-eqb, ne_eqb, mul-pos}
use Rattle.agglo_model.specs.Axes.{Axes, AreEnds, IsWithinLimits, stride, lower_end, higher_end}
use Rattle.agglo_model.specs.Grid.{Grid}
use Rattle.agglo_model.specs.EdgeOrder.{IsBest, HasNoBest}
use Rattle.edge_order.specs.Steps.{edge_at, IsBestStep, reversed, LeadsTo}
use Rattle.edge_order.specs.declared.step.Step.{Step}
use Rattle.edge_order.specs.declared.step.Step.TheVariants.{Stay, BackX, BackY, BackZ, OnX, OnY, OnZ}

some_is : (e f : ℕ) → ◌≡◌ {A = Option ℕ} (Some e) (Some f) → e ≡ f
some_is e f is = cc

-- the lower end of an edge by its higher voxel and axis
lower_is : (a : Axes) (e u c : ℕ) → e ≡ 3 * u + c → c < 3 → lower_end a e ≡ u - stride a c
lower_is a e u c is lt =
    let q : e / 3 ≡ u = omega arith in
    let r : e % 3 ≡ c = omega arith in
    ap₂ (λ m n. m - stride a n) q r

higher_is : (e u c : ℕ) → e ≡ 3 * u + c → c < 3 → higher_end e ≡ u
higher_is e u c is lt = omega arith

-- a step takes the edge between the voxel and the one to which it leads
back_ends : (a : Axes) (v w c s e : ℕ) → c < 3 → stride a c ≡ s → w + s ≡ v → e ≡ 3 * v + c → AreEnds a e v w
back_ends a v w c s e lt stride_is leads is = inr (
  (lower_is a e v c is lt ∙ ap (λ k. v - k) stride_is ∙ omega arith),
  higher_is e v c is lt,
)

on_ends : (a : Axes) (v w c s e : ℕ) → c < 3 → stride a c ≡ s → w ≡ v + s → e ≡ 3 * (v + s) + c → AreEnds a e v w
on_ends a v w c s e lt stride_is leads is = inl (
  (lower_is a e (v + s) c is lt ∙ ap (λ k. v + s - k) stride_is ∙ omega arith),
  (higher_is e (v + s) c is lt ∙ sym leads),
)

pub leads_across : (a : Axes) (v w e : ℕ) (s : Step) → LeadsTo a v s w → edge_at a v s ≡ Some e → AreEnds a e v w
leads_across a v w e Stay leads is = absurd (cc)
leads_across a v w e BackX leads is =
    let e_is = some_is (3 * v) e is in back_ends a v w 0 1 e (omega arith) refl leads (omega arith)
leads_across a v w e BackY leads is =
    let e_is = some_is (3 * v + 1) e is in back_ends a v w 1 a.nx e (omega arith) refl leads (omega arith)
leads_across a v w e BackZ leads is =
    let e_is = some_is (3 * v + 2) e is in back_ends a v w 2 (a.nx * a.ny) e (omega arith) refl leads (omega arith)
leads_across a v w e OnX leads is =
    let e_is = some_is (3 * (v + 1)) e is in on_ends a v w 0 1 e (omega arith) refl leads (omega arith)
leads_across a v w e OnY leads is =
    let e_is = some_is (3 * (v + a.nx) + 1) e is in on_ends a v w 1 a.nx e (omega arith) refl leads (omega arith)
leads_across a v w e OnZ leads is =
    let e_is = some_is (3 * (v + a.nx * a.ny) + 2) e is in on_ends a v w 2 (a.nx * a.ny) e (omega arith) refl leads (omega arith)

-- the reversed step takes the same edge from there
pub reversed_edge : (a : Axes) (v w : ℕ) (s : Step) → LeadsTo a v s w → edge_at a w (reversed s) ≡ edge_at a v s
reversed_edge a v w Stay leads = refl
reversed_edge a v w BackX leads = ap {B = Option ℕ} (λ u. Some (3 * u)) leads
reversed_edge a v w BackY leads = ap {B = Option ℕ} (λ u. Some (3 * u + 1)) leads
reversed_edge a v w BackZ leads = ap {B = Option ℕ} (λ u. Some (3 * u + 2)) leads
reversed_edge a v w OnX leads = ap {B = Option ℕ} (λ u. Some (3 * u)) leads
reversed_edge a v w OnY leads = ap {B = Option ℕ} (λ u. Some (3 * u + 1)) leads
reversed_edge a v w OnZ leads = ap {B = Option ℕ} (λ u. Some (3 * u + 2)) leads

-- the step by which an edge is taken: different steps take different edges
step_by : Bool → ℕ → Step
step_by true zero = BackX
step_by true (suc zero) = BackY
step_by true (suc (suc c)) = BackZ
step_by false zero = OnX
step_by false (suc zero) = OnY
step_by false (suc (suc c)) = OnZ

step_back : (u e c : ℕ) → c < 3 → e ≡ 3 * u + c → step_by (e / 3 == u) (e % 3) ≡ step_by true c
step_back u e c lt is = ap₂ step_by (eq-eqb (e / 3) u (omega arith)) (omega arith)

step_on : (u e c s : ℕ) → c < 3 → 0 < s → e ≡ 3 * (u + s) + c → step_by (e / 3 == u) (e % 3) ≡ step_by false c
step_on u e c s lt pos is = ap₂ step_by (ne_eqb (e / 3) u (omega arith)) (omega arith)

step_of_edge : (a : Axes) (u e : ℕ) (s : Step) → IsWithinLimits a → edge_at a u s ≡ Some e
    → step_by (e / 3 == u) (e % 3) ≡ s
unfolding step_by
step_of_edge a u e Stay limits is = absurd (cc)
step_of_edge a u e BackX limits is = let e_is = some_is (3 * u) e is in step_back u e 0 (omega arith) (omega arith)
step_of_edge a u e BackY limits is = let e_is = some_is (3 * u + 1) e is in step_back u e 1 (omega arith) (omega arith)
step_of_edge a u e BackZ limits is = let e_is = some_is (3 * u + 2) e is in step_back u e 2 (omega arith) (omega arith)
step_of_edge a u e OnX limits is =
    let e_is = some_is (3 * (u + 1)) e is in step_on u e 0 1 (omega arith) (omega arith) (omega arith)
step_of_edge a u e OnY limits is =
    let e_is = some_is (3 * (u + a.nx) + 1) e is in step_on u e 1 a.nx (omega arith) limits.some_x (omega arith)
step_of_edge a u e OnZ limits is =
    let e_is = some_is (3 * (u + a.nx * a.ny) + 2) e is in
    step_on u e 2 (a.nx * a.ny) (omega arith) (mul-pos limits.some_x limits.some_y) (omega arith)

pub same_step : (a : Axes) (u e : ℕ) (s t : Step) → IsWithinLimits a → edge_at a u s ≡ Some e
    → edge_at a u t ≡ Some e → s ≡ t
same_step a u e s t limits p q = sym (step_of_edge a u e s limits p) ∙ step_of_edge a u e t limits q

-- a step that is the best takes the best edge
pub edge_of_best : (g : Grid) (low v e : ℕ) (s : Step) → IsBestStep g low v s → edge_at g.axes v s ≡ Some e
    → IsBest g low v e
edge_of_best g low v e s best is =
    subst (λ o. MatchOption o (HasNoBest g low v) (λ f. IsBest g low v f)) is best

pub has_edge : (a : Axes) (v : ℕ) (s : Step) → s ≢ Stay → (e : ℕ) × (edge_at a v s ≡ Some e)
has_edge a v Stay ne = absurd (ne refl)
has_edge a v BackX ne = (3 * v, refl)
has_edge a v BackY ne = (3 * v + 1, refl)
has_edge a v BackZ ne = (3 * v + 2, refl)
has_edge a v OnX ne = (3 * (v + 1), refl)
has_edge a v OnY ne = (3 * (v + a.nx) + 1, refl)
has_edge a v OnZ ne = (3 * (v + a.nx * a.ny) + 2, refl)
