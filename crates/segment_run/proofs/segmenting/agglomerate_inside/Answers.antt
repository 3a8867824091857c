use Rattle.std.proofs.Common.{sym, subst}
use Rattle.agglo_model.specs.Segmentation.{AreLevels}
use Rattle.segment_run.proofs.segmenting.agglomerate_inside.Goals as goal

pub returns-clause-levels : goal.returns-clause-levels
returns-clause-levels g c =
    let vol = c.args.vol.now in
    let t = c.args.settings.now.threshold in
    let labels = c.args.labels.now.labels in
    let finer = c.finer-finer.result in
    let levels = c.in_ok-done.done.levels.items in
    subst (AreLevels vol t c.args.cutting.now labels) (sym c.coarsen.ensures)
    (c.finer_levels_coarsen.ensures vol t c.args.cutting.now finer.cutting finer.levels labels levels
    c.finer-finer.ensures.cutting c.requires.cutting_fits c.finer-finer.ensures.finer
    (c.basins_are_connected.ensures vol c.requires.basins.0 labels c.requires.basins.1) c.in_ok-done.ensures.levels)
