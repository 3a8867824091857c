use Rattle.std.proofs.Common.{◌≡◌, take, drop, arith, ap, ◌∙◌}
use Rattle.std.specs.List.{flat_map}
use Rattle.std.proofs.lemmas.Result.{err_from_is_err_and}
use Rattle.agglo_model.specs.MergeTree.{merge_bytes}
use Rattle.merge_tree.proofs.Blocks.{block_put, block_fails}
use Rattle.merge_tree.proofs.tree_file.put_merges.Goals as goal

pub returns-in_err-put : goal.returns-in_err-put
returns-in_err-put g c =
    let p = err_from_is_err_and c.from_residual.result c.from_residual.ensures.1 in
    let block : c.write_merges.new.bytes ≡ flat_map merge_bytes (take c.min-count.result (drop c.loop-done.done c.args.merges.now)) =
    c.write_merges.ensures ∙ ap (λ n. flat_map merge_bytes (take n (drop c.loop-done.done c.args.merges.now))) (omega arith) in
    rw p.1 (block_fails merge_bytes c.args.merges.now _ _ _ _ _ _ _ _ _ block c.loop-done.invariant.1 c.in_err-put.ensures)

pub loop-done-preserved : goal.loop-done-preserved
loop-done-preserved g c =
    let block : c.write_merges.new.bytes ≡ flat_map merge_bytes (take c.min-count.result (drop c.loop-done.done c.args.merges.now)) =
    c.write_merges.ensures ∙ ap (λ n. flat_map merge_bytes (take n (drop c.loop-done.done c.args.merges.now))) (omega arith) in
    (omega arith, block_put merge_bytes c.args.merges.now _ _ _ _ _ _ _ _ _ block c.loop-done.invariant.1 c.in_ok-put.ensures)
