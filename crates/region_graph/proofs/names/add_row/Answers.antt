use Rattle.std.proofs.Common.{◌≡◌, ◌<◌, ◌∷◌, ◌++◌, [], get_or, sym, ap, ◌∙◌, subst, arith}
use Rattle.agglo_model.specs.Axes.{voxel_count}
use Rattle.agglo_model.specs.Basins.{label_of}
use Rattle.region_graph.specs.Lists.{AreNamed, SameRegions}
use Rattle.region_graph.specs.Boxes.{GainsNames, in_run}
use Rattle.region_graph.proofs.NameGains.{told_none, told_name, told_background}
use Rattle.region_graph.proofs.names.add_row.Goals as goal
use Rattle.region_graph.proofs.names.add_row.Goals.{then-name-ne0+in_ok-place, else-name-ne0}

pub loop-v-init : goal.loop-v-init
loop-v-init c = told_none c.args.labels.now.axes c.args.labels.now.labels c.args.from c.args.faces c.args.regions.now.items

pub loop-v-preserved : goal.loop-v-preserved
loop-v-preserved c =
    let a = c.args.labels.now.axes in
    let labels = c.args.labels.now.labels in
    let v = c.loop-v.v in
    let name = get_or c.list-labels.result.now v 0 in
    let name_is : name ≡ label_of labels v = ap (λ ls. get_or ls v 0) c.list-labels.ensures.value in
    let before = c.args.regions.now.items in
    let now = c.loop-v.regions.items in
    let below : v < voxel_count a = omega arith in
    elim c.if-name-ne0.branch [
      | then-name-ne0+in_ok-place w ↦
          let after = sym (ap (λ rs. rs.items) w.regions-is) in
          told_name a labels c.args.from v c.args.faces before now c.if-name-ne0.regions.items name
          c.loop-v.auto.v below c.loop-v.invariant name_is w.if-name-ne0.true
          (subst (SameRegions (now ++ record { name = name; faces = c.args.faces } ∷ [])) after w.in_ok-place.ensures.same)
          (subst (λ rs. AreNamed now → (name ≡ 0 → ⊥) → AreNamed rs) after w.in_ok-place.ensures.named)
      | else-name-ne0 w ↦
          told_background a labels c.args.from v c.args.faces before now c.if-name-ne0.regions.items
          c.loop-v.auto.v below c.loop-v.invariant (sym name_is ∙ w.if-name-ne0.false) (ap (λ rs. rs.items) w.regions-is)
    ]

pub returns : goal.returns
returns c =
    let a = c.args.labels.now.axes in
    let labels = c.args.labels.now.labels in
    let end : c.loop-v.v ≡ c.args.to = omega arith in
    subst (λ v. GainsNames a labels (in_run c.args.from v) c.args.faces c.args.regions.now.items c.loop-v.regions.items)
    end c.loop-v.invariant
