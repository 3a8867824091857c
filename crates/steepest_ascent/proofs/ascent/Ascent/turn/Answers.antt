use Rattle.std.proofs.Common.{◌≡◌, ◌≢◌, ◌<◌, ◌+◌, rules, sym, ap, ◌∙◌, subst}
use denote.Enum.Bare.{same_true, same_false}
use Rattle.agglo_model.specs.Axes.{IsWithinLimits}
use Rattle.edge_order.specs.Steps.{IsBestStep, reversed}
use Rattle.edge_order.specs.contracts.step.Step.{the_type}
use Rattle.edge_order.specs.declared.step.Step.TheVariants.{Stay}
use Rattle.steepest_ascent.specs.Terrain.{Terrain, IsCharted}
use Rattle.steepest_ascent.proofs.Turning.{ends_with, climbs_to, step_read}
use Rattle.steepest_ascent.proofs.ascent.Ascent.turn.Goals as goal
use Rattle.steepest_ascent.proofs.ascent.Ascent.turn.Goals.{After-eq-2}

-- the steps of the voxel and of the far end of its edge are the best there
steps_are : (c : After-eq-2) → IsBestStep c.args.self.now.grid c.args.self.now.low c.args.v c.index.result.now
    × IsBestStep c.args.self.now.grid c.args.self.now.low c.far_end-far.result c.index-2.result.now
    × (c.index.result.now ≢ Stay) × IsWithinLimits c.args.self.now.grid.axes
steps_are c =
    let t : Terrain = c.args.self.now in
    let steps = c.self.inside.steps.items in
    let charted : IsCharted t c.self.inside.row c.self.inside.layer steps =
    subst (λ u. IsCharted u c.self.inside.row c.self.inside.layer steps) c.self.view_is c.self.invariant in (
      step_read t.grid t.low c.args.v steps c.index.result.now charted.best
          (subst (λ n. c.args.v < n) (sym charted.one_each) c.requires) c.index.ensures,
      step_read t.grid t.low c.far_end-far.result steps c.index-2.result.now charted.best
          (subst (λ n. c.far_end-far.result < n) (sym charted.one_each) c.far_end-far.ensures.voxel) c.index-2.ensures,
      same_false the_type c.index.result.now Stay (sym c.eq.ensures ∙ c.if-eq.false),
      charted.whole.limits,
    )

pub returns-then-eq-2-clause-turn : goal.returns-then-eq-2-clause-turn
returns-then-eq-2-clause-turn c =
    let t : Terrain = c.args.self.now in
    let known = steps_are (goal.at.returns-then-eq-2-clause-turn c).After-eq-2 in
    let back : c.index-2.result.now ≡ c.reversed.result =
    same_true the_type (search rules) c.index-2.result.now c.reversed.result (sym c.eq-2.ensures ∙ c.if-eq-2.true) in
    ends_with t.grid t.low c.args.v c.far_end-far.result (c.min.result + 1) c.index.result.now c.index-2.result.now
    known.0 known.2 c.far_end-far.ensures.leads known.1 (back ∙ c.reversed.ensures) (ap (λ n. n + 1) c.min.ensures)

pub returns-else-eq-2-clause-turn : goal.returns-else-eq-2-clause-turn
returns-else-eq-2-clause-turn c =
    let t : Terrain = c.args.self.now in
    let known = steps_are (goal.at.returns-else-eq-2-clause-turn c).After-eq-2 in
    let other : c.index-2.result.now ≢ reversed c.index.result.now = λ is.
    same_false the_type c.index-2.result.now c.reversed.result (sym c.eq-2.ensures ∙ c.if-eq-2.false)
    (is ∙ sym c.reversed.ensures) in
    climbs_to t.grid t.low c.args.v c.far_end-far.result c.index.result.now c.index-2.result.now
    known.3 known.0 known.2 c.far_end-far.ensures.leads known.1 other
