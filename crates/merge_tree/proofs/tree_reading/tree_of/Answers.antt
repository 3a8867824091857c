use Rattle.std.proofs.Common.{◌≡◌, ◌<◌, ◌*◌, ◌∙◌, List, ap, sym, subst, arith, length}
use Rattle.std.proofs.lemmas.Result.{err_from_is_err_and}
use Rattle.agglo_model.specs.Axes.{voxel_count}
use Rattle.agglo_model.specs.Greedy.{Merge}
use Rattle.agglo_model.specs.MergeTree.{AreLawful}
use Rattle.agglo_model.specs.TreeFile.{merges_in, record_length}
use Rattle.agglo_model.proofs.TreeBodies.{whole_body}
use Rattle.agglo_model.proofs.SoundTrees.{lawful_records, as_many}
use Rattle.merge_tree.proofs.WholeTrees.{tells_truncated, tells_trailing, tells_record}
use Rattle.merge_tree.proofs.tree_reading.tree_of.Goals as goal

pub returns-then-body-length : goal.returns-then-body-length
returns-then-body-length c =
    λ other. tells_truncated c.args.head.now.dims c.args.head.now.threshold c.args.head.now.merges c.args.body.now (omega arith)

pub returns-then-body-length-2 : goal.returns-then-body-length-2
returns-then-body-length-2 c =
    λ other. tells_trailing c.args.head.now.dims c.args.head.now.threshold c.args.head.now.merges c.args.body.now (omega arith)

pub returns-in_err-merges : goal.returns-in_err-merges
returns-in_err-merges c =
    let p = err_from_is_err_and c.from_residual.result c.from_residual.ensures.1 in
    let size : length c.args.body.now ≡ record_length * c.args.head.now.merges = omega arith in
    rw (p.1, p.2) (λ other. tells_record c.args.head.now.dims c.args.head.now.threshold c.args.head.now.merges c.args.body.now _ size (c.in_err-merges.ensures other))

pub of-requires : goal.of-requires
of-requires c =
    subst (AreLawful c.args.head.now.dims c.args.head.now.threshold) (sym c.in_ok-merges.ensures.1)
    (lawful_records c.args.head.now.dims c.args.head.now.threshold (merges_in c.args.head.now.merges c.args.body.now)
    (subst (λ n. n < voxel_count c.args.head.now.dims) (sym (as_many c.args.head.now.merges c.args.body.now)) c.args.head.now.few) c.in_ok-merges.ensures.0)

pub returns : goal.returns
returns c =
    let size : length c.args.body.now ≡ record_length * c.args.head.now.merges = omega arith in (
      whole_body c.args.head.now.dims c.args.head.now.threshold c.args.head.now.merges c.args.body.now size ∙ c.in_ok-merges.ensures.0,
      c.of.ensures ∙ ap (λ (l : List Merge). record { axes = c.args.head.now.dims; threshold = c.args.head.now.threshold; merges = l }) c.in_ok-merges.ensures.1,
    )
