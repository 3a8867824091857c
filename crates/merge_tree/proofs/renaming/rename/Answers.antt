use Rattle.std.proofs.Common.{ap, ◌∙◌, ◌≡◌, ◌<◌, arith, length, get_or, set}
use Rattle.agglo_model.specs.Axes.{voxel_count}
use Rattle.merge_tree.specs.Renaming.{final_label}
use Rattle.merge_tree.proofs.FinalNames.{one_renamed}
use Rattle.merge_tree.proofs.renaming.rename.Goals as goal

pub loop-voxel-preserved : goal.loop-voxel-preserved
loop-voxel-preserved c =
    let below : c.loop-voxel.voxel < length c.args.labels.now.labels =
    let count : c.voxels-voxel-end.result ≡ voxel_count c.args.labels.now.axes =
    c.voxels-voxel-end.ensures.value ∙ ap voxel_count c.dims.ensures.value in
    omega (arith, count, c.dims.ensures.labelled.one_each) in
    let name : c.label_in-name.result ≡ final_label c.args.names.now (get_or c.loop-voxel.labels.labels c.loop-voxel.voxel 0) =
    c.label_in-name.ensures ∙ ap (final_label c.args.names.now) c.get.ensures.value in
    record {
      axes = ap (λ l. l.axes) c.set.ensures ∙ c.loop-voxel.invariant.axes;
      so_far = ap (λ l. l.labels) c.set.ensures
          ∙ (ap (set c.loop-voxel.labels.labels c.loop-voxel.voxel) name
          ∙ one_renamed (final_label c.args.names.now) c.args.labels.now.labels c.loop-voxel.labels.labels c.loop-voxel.voxel 0 below c.loop-voxel.invariant.so_far);
    }
