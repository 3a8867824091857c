use Rattle.std.proofs.Common.{◌≡◌, ℕ, ◌<◌, ◌≤◌, ◌^◌, List, length, sym, ap, ◌∙◌, subst}
use Rattle.std.proofs.lemmas.List.{take_at}
use Rattle.agglo_model.specs.Axes.{voxel_count}
use Rattle.agglo_model.specs.Grid.{Grid}
use Rattle.agglo_model.specs.Basins.{AreBasins, label_of}
use Rattle.agglo_model.specs.LabelMap.{LabelMap}
use Rattle.steepest_ascent.specs.Progress.{IsLabelOf}
use Rattle.steepest_ascent.specs.Terrain.{Terrain}
use Rattle.steepest_ascent.proofs.Filling.{all_right, basins_fit}
use Rattle.steepest_ascent.proofs.basins.whole_basins.Goals as goal
use Rattle.steepest_ascent.proofs.basins.whole_basins.Goals.{After-settle_all}

-- there is a label for each voxel, and each is that of its basin
settled : (c : After-settle_all) → (length c.settle_all.new.labels ≡ voxel_count c.args.vol.now.axes)
    × ((v : ℕ) → v < length c.settle_all.new.labels → IsLabelOf c.args.vol.now c.args.low v (label_of c.settle_all.new.labels v))
settled c =
    let ws : List ℕ = c.settle_all.new.labels in (
      c.settle_all.auto.labels ∙ c.deref_mut.ensures.len ∙ c.in_ok-labels.ensures.len ∙ c.voxels.ensures.value
          ∙ ap voxel_count c.dims.ensures.value,
      subst (λ (t : Terrain). (v : ℕ) → v < length ws → IsLabelOf t.grid t.low v (label_of ws v))
          c.in_ok-ascent.ensures c.settle_all.ensures,
    )

pub of-requires-2-clause-labels_fit : goal.of-requires-2-clause-labels_fit
of-requires-2-clause-labels_fit c =
    let g : Grid = c.args.vol.now in
    let ws : List ℕ = c.settle_all.new.labels in
    let known = settled (goal.at.of-requires-2-clause-labels_fit c).After-settle_all in
    subst (λ (l : List ℕ). (v : ℕ) → v < length l → label_of l v ≤ 2 ^ 28)
    (sym (take_at ws _ c.in_ok-labels.labels.len (c.settle_all.auto.labels ∙ c.deref_mut.ensures.len)))
    (basins_fit g c.args.low ws c.dims-2.ensures.whole (all_right g c.args.low ws known.0 known.1))

pub returns-clause-basins : goal.returns-clause-basins
returns-clause-basins c =
    let g : Grid = c.args.vol.now in
    let ws : List ℕ = c.settle_all.new.labels in
    let known = settled (goal.at.returns-clause-basins c).After-settle_all in
    let list_is = ap (λ (m : LabelMap). m.labels) c.of-2.ensures
    ∙ take_at ws _ c.in_ok-labels.labels.len (c.settle_all.auto.labels ∙ c.deref_mut.ensures.len) in
    subst (λ l. AreBasins g c.args.low l) (sym list_is) (all_right g c.args.low ws known.0 known.1)
