use Rattle.std.proofs.Common.{◌≡◌, ℕ, ◌<◌, ◌≤◌, ◌^◌, List, length, sym, ap, ◌∙◌, subst}
use Rattle.std.proofs.lemmas.List.{take_at}
use Rattle.agglo_model.specs.Axes.{voxel_count}
use Rattle.agglo_model.specs.Basins.{AreBasins, label_of}
use Rattle.agglo_model.specs.LabelMap.{LabelMap}
use Rattle.steepest_ascent.specs.Progress.{IsLabelOf}
use Rattle.steepest_ascent.proofs.Filling.{all_right, basins_fit}
use Rattle.face_pointers.specs.Pieces.{Parts}
use Rattle.face_pointers.proofs.resolving.resolve_into.Given.{Over}
use Rattle.face_pointers.proofs.resolving.resolve_into.Goals as goal
use Rattle.face_pointers.proofs.resolving.resolve_into.Goals.{After-fill_all}

-- there is a label for each voxel, and each is that of its basin
filled : (g : Over) (c : After-fill_all g) → (length c.fill_all.new.labels ≡ voxel_count c.args.vol.now.axes)
    × ((v : ℕ) → v < length c.fill_all.new.labels → IsLabelOf c.args.vol.now c.args.low v (label_of c.fill_all.new.labels v))
filled g c =
    let ws : List ℕ = c.fill_all.new.labels in (
      c.fill_all.auto.labels ∙ ap length c.deref_mut.ensures.value ∙ c.requires.room,
      subst (λ (p : Parts). (v : ℕ) → v < length ws → IsLabelOf p.grid p.low v (label_of ws v))
          (c.in_ok-follow_all.ensures ∙ c.of-exits.ensures) c.fill_all.ensures,
    )

pub of-requires-clause-labels_fit : goal.of-requires-clause-labels_fit
of-requires-clause-labels_fit g c =
    let ws : List ℕ = c.fill_all.new.labels in
    let known = filled g (goal.at.of-requires-clause-labels_fit g c).After-fill_all in
    subst (λ (l : List ℕ). (v : ℕ) → v < length l → label_of l v ≤ 2 ^ 28)
    (sym (take_at ws _ c.args.room.len (c.fill_all.auto.labels ∙ c.deref_mut.ensures.len)))
    (basins_fit c.args.vol.now c.args.low ws c.dims.ensures.whole (all_right c.args.vol.now c.args.low ws known.0 known.1))

pub returns-clause-basins : goal.returns-clause-basins
returns-clause-basins g c =
    let ws : List ℕ = c.fill_all.new.labels in
    let known = filled g (goal.at.returns-clause-basins g c).After-fill_all in
    let list_is = ap (λ (m : LabelMap). m.labels) c.of.ensures
    ∙ take_at ws _ c.args.room.len (c.fill_all.auto.labels ∙ c.deref_mut.ensures.len) in
    subst (λ l. AreBasins c.args.vol.now c.args.low l) (sym list_is) (all_right c.args.vol.now c.args.low ws known.0 known.1)
