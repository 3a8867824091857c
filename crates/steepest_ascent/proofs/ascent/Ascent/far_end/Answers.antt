use Rattle.std.proofs.Common.{◌*◌, ap, ◌∙◌}
use Rattle.steepest_ascent.specs.Terrain.{Terrain}
use Rattle.steepest_ascent.proofs.Turning.{back_y, back_z, leads_y, leads_z}
use Rattle.steepest_ascent.proofs.ascent.Ascent.far_end.Goals as goal

pub overflow_sub-result-in-BackY : goal.overflow_sub-result-in-BackY
overflow_sub-result-in-BackY c =
    let t = c.args.self.now in
    back_y t.grid t.low c.args.v c.self.inside.row c.args.step c.requires.best c.in-BackY.is
    (c.self.invariant.rows ∙ ap (λ (u : Terrain). u.grid.axes.nx) c.self.view_is)

pub overflow_sub-result-in-BackZ : goal.overflow_sub-result-in-BackZ
overflow_sub-result-in-BackZ c =
    let t = c.args.self.now in
    back_z t.grid t.low c.args.v c.self.inside.layer c.args.step c.requires.best c.in-BackZ.is
    (c.self.invariant.layers ∙ ap (λ (u : Terrain). u.grid.axes.nx * u.grid.axes.ny) c.self.view_is)

pub returns-in-BackY-clause-leads : goal.returns-in-BackY-clause-leads
returns-in-BackY-clause-leads c =
    let t = c.args.self.now in
    leads_y t.grid t.low c.args.v c.self.inside.row c.args.step c.requires.best c.in-BackY.is
    (c.self.invariant.rows ∙ ap (λ (u : Terrain). u.grid.axes.nx) c.self.view_is)

pub returns-in-BackZ-clause-leads : goal.returns-in-BackZ-clause-leads
returns-in-BackZ-clause-leads c =
    let t = c.args.self.now in
    leads_z t.grid t.low c.args.v c.self.inside.layer c.args.step c.requires.best c.in-BackZ.is
    (c.self.invariant.layers ∙ ap (λ (u : Terrain). u.grid.axes.nx * u.grid.axes.ny) c.self.view_is)
