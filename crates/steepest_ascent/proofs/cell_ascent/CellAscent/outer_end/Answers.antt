use Rattle.std.proofs.Common.{◌≡◌, ◌≢◌, ◌+◌, true, rules, sym, ap, ◌∙◌, subst}
use denote.Enum.Bare.{same_true, same_false}
use Rattle.agglo_model.specs.Grid.{Grid, IsWhole}
use Rattle.edge_order.specs.Steps.{IsBestStep, LeadsTo, leads_within, reversed}
use Rattle.edge_order.specs.contracts.step.Step.{the_type}
use Rattle.edge_order.proofs.StepPlaces.{best_within}
use Rattle.steepest_ascent.specs.CellEnds.{Ends, Leaves}
use Rattle.steepest_ascent.specs.Charts.{Chart}
use Rattle.steepest_ascent.proofs.Turning.{ends_with, climbs_to}
use Rattle.steepest_ascent.proofs.cell_ascent.CellAscent.outer_end.Goals as goal
use Rattle.steepest_ascent.proofs.cell_ascent.CellAscent.outer_end.Goals.{After-eq}

pub far_end-far-requires-clause-within : goal.far_end-far-requires-clause-within
far_end-far-requires-clause-within c =
    let t : Chart = c.args.self.now in
    let axes = c.dims.ensures.value ∙ ap (λ (u : Chart). u.grid.axes) c.self.view_is in
    let limits = (subst (λ (g : Grid). IsWhole g) (ap (λ (u : Chart). u.grid) c.self.view_is) c.dims.ensures.whole).limits in
    subst (λ a. leads_within a c.args.v c.args.step ≡ true) (sym axes)
    (best_within t.grid t.low c.args.v c.args.step limits c.requires.voxel c.requires.best)

-- the edge leads to the far voxel, whose best step is read there
far_known : (c : After-eq) → LeadsTo c.args.self.now.grid.axes c.args.v c.args.step c.far_end-far.result
    × IsBestStep c.args.self.now.grid c.args.self.now.low c.far_end-far.result c.best_step.result
far_known c =
    let far = c.far_end-far.result in (
      subst (λ a. LeadsTo a c.args.v c.args.step far) (c.dims.ensures.value ∙ ap (λ (u : Chart). u.grid.axes) c.self.view_is)
          c.far_end-far.ensures.leads,
      subst (λ (u : Chart). IsBestStep u.grid u.low far c.best_step.result) c.self.view_is c.best_step.ensures,
    )

pub returns-then-eq-clause-end : goal.returns-then-eq-clause-end
returns-then-eq-clause-end c =
    let t : Chart = c.args.self.now in
    let known = far_known (goal.at.returns-then-eq-clause-end c).After-eq in
    let back : c.best_step.result ≡ c.reversed.result =
    same_true the_type (search rules) c.best_step.result c.reversed.result (sym c.eq.ensures ∙ c.if-eq.true) in
    Ends (ends_with t.grid t.low c.args.v c.far_end-far.result (c.min.result + 1) c.args.step c.best_step.result
    c.requires.best c.requires.moves known.0 known.1 (back ∙ c.reversed.ensures) (ap (λ n. n + 1) c.min.ensures))

pub returns-else-eq-clause-end : goal.returns-else-eq-clause-end
returns-else-eq-clause-end c =
    let t : Chart = c.args.self.now in
    let known = far_known (goal.at.returns-else-eq-clause-end c).After-eq in
    let limits = (subst (λ (g : Grid). IsWhole g) (ap (λ (u : Chart). u.grid) c.self.view_is) c.dims.ensures.whole).limits in
    let other : c.best_step.result ≢ reversed c.args.step = λ is.
    same_false the_type c.best_step.result c.reversed.result (sym c.eq.ensures ∙ c.if-eq.false) (is ∙ sym c.reversed.ensures) in
    Leaves (climbs_to t.grid t.low c.args.v c.far_end-far.result c.args.step c.best_step.result limits
    c.requires.best c.requires.moves known.0 known.1 other) (c.requires.leaves c.far_end-far.result known.0)
