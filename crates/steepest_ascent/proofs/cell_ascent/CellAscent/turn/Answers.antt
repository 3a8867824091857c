use Rattle.std.proofs.Common.{◌≡◌, ◌≢◌, ◌<◌, true, rules, sym, ap, ◌∙◌, subst}
use denote.Enum.Bare.{same_true, same_false}
use Rattle.agglo_model.specs.Axes.{Axes, voxel_count}
use Rattle.edge_order.specs.Steps.{LeadsTo, leads_within, reversed}
use Rattle.edge_order.specs.contracts.step.Step.{the_type}
use Rattle.edge_order.specs.declared.step.Step.TheVariants.{Stay}
use Rattle.steepest_ascent.specs.CellTurns.{IsSpot}
use Rattle.steepest_ascent.specs.Charts.{Chart, IsCharted, own_grid, step_of}
use Rattle.steepest_ascent.specs.declared.cell_ascent.Spot.{Spot}
use Rattle.steepest_ascent.proofs.CellTurning.{step_read_in, spot_within, far_spot, cell_ends, cell_climbs}
use Rattle.steepest_ascent.proofs.cell_ascent.CellAscent.turn.Goals as goal
use Rattle.steepest_ascent.proofs.cell_ascent.CellAscent.turn.Goals.{After-eq-2, After-index}

charted : (c : After-index) → IsCharted c.args.self.now c.self.inside.grid
charted c = subst (λ u. IsCharted u c.self.inside.grid) c.self.view_is c.self.invariant

here_is : (c : After-index) → c.index.result.now ≡ step_of c.args.self.now c.args.here.own
here_is c = step_read_in c.args.self.now c.self.inside.grid _ c.args.here.own c.index.result.now (charted c)
    (ap (λ (u : Chart). u.steps) c.self.view_is) c.requires.spot.in_cell c.index.ensures

abbrev far_of : After-eq-2 → Spot
far_of c = record { own = c.far_end.result; voxel = c.far_end-2.result }

-- what is known of the spot and of the far end of its edge
record AreBothEnds (c : After-eq-2) : Type 0 where
  charted : IsCharted c.args.self.now c.self.inside.grid
  far_is : IsSpot c.args.self.now (far_of c)
  here_is : c.index.result.now ≡ step_of c.args.self.now c.args.here.own
  there_is : c.index-2.result.now ≡ step_of c.args.self.now c.far_end.result
  moves : c.index.result.now ≢ Stay
  to : LeadsTo c.args.self.now.grid.axes c.args.here.voxel c.index.result.now c.far_end-2.result

both_ends : (c : After-eq-2) → AreBothEnds c
both_ends c =
    let t : Chart = c.args.self.now in
    let own : Axes = c.self.inside.grid in
    let here : Spot = c.args.here in
    let far : Spot = far_of c in
    let h = charted (goal.at.After-eq-2 c).After-index in
    let step_is = here_is (goal.at.After-eq-2 c).After-index in
    let there : far.own < voxel_count (own_grid t) = subst (λ a. far.own < voxel_count a) h.own_is c.far_end.ensures.voxel in
    let axes = c.dims.ensures.value ∙ ap (λ (u : Chart). u.grid.axes) c.self.view_is in
    let within : leads_within (own_grid t) here.own c.index.result.now ≡ true = subst (λ s. leads_within (own_grid t) here.own s ≡ true) (sym step_is) c.requires.within in
    let leads : LeadsTo (own_grid t) here.own c.index.result.now far.own = subst (λ a. LeadsTo a here.own c.index.result.now far.own) h.own_is c.far_end.ensures.leads in
    let to : LeadsTo t.grid.axes here.voxel c.index.result.now far.voxel = subst (λ a. LeadsTo a here.voxel c.index.result.now far.voxel) axes c.far_end-2.ensures.leads in
    record {
      charted = h;
      far_is = far_spot t own here far c.index.result.now h c.requires.spot there within leads to;
      here_is = step_is;
      there_is = step_read_in t own _ far.own c.index-2.result.now h (ap (λ (u : Chart). u.steps) c.self.view_is) there c.index-2.ensures;
      moves = same_false the_type c.index.result.now Stay (sym c.eq.ensures ∙ c.if-eq.false);
      to = to;
    }

pub far_end-requires-2-clause-within : goal.far_end-requires-2-clause-within
far_end-requires-2-clause-within c =
    let t : Chart = c.args.self.now in
    let here : Spot = c.args.here in
    let known = (goal.at.far_end-requires-2-clause-within c).After-index in
    let axes = c.dims.ensures.value ∙ ap (λ (u : Chart). u.grid.axes) c.self.view_is in
    subst (λ a. leads_within a here.voxel c.index.result.now ≡ true) (sym axes)
    (spot_within t c.self.inside.grid here c.index.result.now (charted known) c.requires.spot (here_is known))

pub returns-then-eq-2-clause-turn : goal.returns-then-eq-2-clause-turn
returns-then-eq-2-clause-turn c =
    let at = (goal.at.returns-then-eq-2-clause-turn c).After-eq-2 in
    let known = both_ends at in
    let back : c.index-2.result.now ≡ c.reversed.result =
    same_true the_type (search rules) c.index-2.result.now c.reversed.result (sym c.eq-2.ensures ∙ c.if-eq-2.true) in
    cell_ends c.args.self.now c.self.inside.grid c.args.here (far_of at) c.index.result.now c.index-2.result.now known.charted
    c.requires.spot known.far_is known.here_is known.there_is known.moves known.to (back ∙ c.reversed.ensures)

pub returns-else-eq-2-clause-turn : goal.returns-else-eq-2-clause-turn
returns-else-eq-2-clause-turn c =
    let at = (goal.at.returns-else-eq-2-clause-turn c).After-eq-2 in
    let known = both_ends at in
    let other : c.index-2.result.now ≢ reversed c.index.result.now = λ is.
    same_false the_type c.index-2.result.now c.reversed.result (sym c.eq-2.ensures ∙ c.if-eq-2.false) (is ∙ sym c.reversed.ensures) in
    cell_climbs c.args.self.now c.self.inside.grid c.args.here (far_of at) c.index.result.now c.index-2.result.now known.charted
    c.requires.spot known.far_is known.here_is known.there_is known.moves known.to other
