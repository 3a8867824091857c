use Rattle.std.proofs.Common.{◌≡◌, ℕ, ◌+◌, ◌==◌, Bool, cond, count_by, sym, ap, ◌∙◌, arith}
use Rattle.std.specs.List.{range_with_len}
use Rattle.std.proofs.lemmas.Bool.Decides.{nat_tests}
use Rattle.agglo_model.specs.Axes.{voxel_count}
use Rattle.agglo_model.specs.Basins.{label_of}
use Rattle.agglo_model.proofs.Names.{count_more}
use Rattle.segment_run.proofs.segmenting.count_basins.Goals as goal
use Rattle.segment_run.proofs.segmenting.count_basins.Goals.{then-get-v, else-get-v}

-- one number more, counted or not
counted : (p : ℕ → Bool) (v n m : ℕ) → n ≡ count_by p (range_with_len 0 v) → m ≡ n + cond (p v) 1 0
    → m ≡ count_by p (range_with_len 0 (v + 1))
counted p v n m so_far here = here ∙ ap (λ k. k + cond (p v) 1 0) so_far ∙ sym (count_more p v)

pub loop-v-preserved : goal.loop-v-preserved
loop-v-preserved c = elim c.if-get-v.branch [
  | then-get-v w ↦ (omega arith, counted _ c.loop-v.v c.loop-v.count _ c.loop-v.invariant.1 (grind (arith, nat_tests)))
  | else-get-v w ↦ (omega arith, counted _ c.loop-v.v c.loop-v.count _ c.loop-v.invariant.1 (grind (arith, nat_tests)))
]

pub returns : goal.returns
returns c =
    let voxels : c.voxels-v-end.result ≡ voxel_count c.args.labels.now.axes =
    c.voxels-v-end.ensures.value ∙ ap voxel_count c.dims.ensures.value in
    let all : c.loop-v.v ≡ voxel_count c.requires.0.axes =
    omega (arith, voxels, c.dims.ensures.labelled.one_each, c.requires.2.one_each) in
    c.loop-v.invariant.1
    ∙ ap (λ n. count_by (λ v. label_of c.args.labels.now.labels v == v + 1) (range_with_len 0 n)) all
    ∙ sym (c.counted_names.ensures c.requires.0 c.requires.1 c.args.labels.now.labels c.requires.2)
