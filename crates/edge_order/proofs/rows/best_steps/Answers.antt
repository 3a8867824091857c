use Rattle.std.proofs.Common.{◌∷◌, [], ap, ◌∙◌}
use Rattle.std.proofs.lemmas.Result.{IfOk-weaker}
use Rattle.agglo_model.specs.Axes.{Axes}
use Rattle.edge_order.proofs.RowKeys.{whole_steps}
use Rattle.edge_order.proofs.rows.best_steps.Goals as goal

pub returns-clause-best : goal.returns-clause-best
returns-clause-best c = IfOk-weaker c.cell_steps.result _ _
    (λ steps best. whole_steps c.args.vol.now c.args.low c.whole.result.lo c.whole.result.hi steps.items c.whole.ensures.low
    (c.whole.ensures.high ∙ ap (λ (a : Axes). a.nx ∷ a.ny ∷ a.nz ∷ []) c.dims.ensures.value) best)
    c.cell_steps.ensures.best
