use Rattle.std.proofs.Common.{◌≡◌, take, drop, arith, ap, ◌∙◌}
use Rattle.std.specs.List.{flat_map}
use Rattle.std.proofs.lemmas.Result.{err_from_is_err_and}
use Rattle.agglo_model.specs.LabelFile.{u32_bytes}
use Rattle.merge_tree.proofs.Blocks.{block_put, block_fails}
use Rattle.merge_tree.proofs.label_file.put_list.Goals as goal

pub returns-in_err-put : goal.returns-in_err-put
returns-in_err-put g c =
    let p = err_from_is_err_and c.from_residual.result c.from_residual.ensures.1 in
    let block : c.write_u32_into.new.dst ≡ flat_map u32_bytes (take c.min-count.result (drop c.loop-done.done c.args.labels.now)) =
    c.write_u32_into.ensures ∙ ap (λ n. flat_map u32_bytes (take n (drop c.loop-done.done c.args.labels.now))) (omega arith) in
    rw p.1 (block_fails u32_bytes c.args.labels.now _ _ _ _ _ _ _ _ _ block c.loop-done.invariant.1 c.in_err-put.ensures)

pub loop-done-preserved : goal.loop-done-preserved
loop-done-preserved g c =
    let block : c.write_u32_into.new.dst ≡ flat_map u32_bytes (take c.min-count.result (drop c.loop-done.done c.args.labels.now)) =
    c.write_u32_into.ensures ∙ ap (λ n. flat_map u32_bytes (take n (drop c.loop-done.done c.args.labels.now))) (omega arith) in
    (omega arith, block_put u32_bytes c.args.labels.now _ _ _ _ _ _ _ _ _ block c.loop-done.invariant.1 c.in_ok-put.ensures)
