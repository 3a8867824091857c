use Rattle.std.proofs.Common.{[], ◌++◌, ap, length, subst}
use Rattle.std.specs.List.{flat_map}
use Rattle.std.proofs.lemmas.Result.{err_from_is_err_and}
use Rattle.agglo_model.specs.MergeTree.{merge_bytes, tree_header}
use Rattle.seg_io.specs.Piecing.{Puts, FailsToPut}
use Rattle.seg_io.proofs.Piecing.{Puts-none, Puts-more, FailsToPut-sooner, put_fails, finish_all}
use Rattle.seg_io.specs.declared.port.Port.TheVariants.{Tree}
use Rattle.merge_tree.proofs.tree_file.put_tree.Goals as goal

pub returns-in_err-put : goal.returns-in_err-put
returns-in_err-put g c =
    let p = err_from_is_err_and c.from_residual.result c.from_residual.ensures.1 in
    let head = tree_header c.args.tree.now.axes c.args.tree.now.threshold (length c.args.tree.now.merges) in
    rw p.1 (put_fails Tree [] (head ++ flat_map merge_bytes c.args.tree.now.merges)
    c.new-piecer.result c.new-piecer.result c.put.new.self
    (g.D.Desk.state c.args.desk.now) (g.D.Desk.state c.args.desk.now) (g.D.Desk.state c.put.new.desk) c.new-piecer.ensures (Puts-none _ _)
    (FailsToPut-sooner head (flat_map merge_bytes c.args.tree.now.merges) _ _ _ _
    (subst (λ bytes. FailsToPut bytes c.new-piecer.result c.put.new.self (g.D.Desk.state c.args.desk.now) (g.D.Desk.state c.put.new.desk))
    c.header.ensures c.in_err-put.ensures)))

pub returns-in_err-put_merges : goal.returns-in_err-put_merges
returns-in_err-put_merges g c =
    let p = err_from_is_err_and c.from_residual-in_err-put_merges.result c.from_residual-in_err-put_merges.ensures.1 in
    let head = tree_header c.args.tree.now.axes c.args.tree.now.threshold (length c.args.tree.now.merges) in
    rw p.1 (put_fails Tree head (flat_map merge_bytes c.args.tree.now.merges)
    c.new-piecer.result c.put.new.self c.put_merges.new.piecer
    (g.D.Desk.state c.args.desk.now) (g.D.Desk.state c.put.new.desk) (g.D.Desk.state c.put_merges.new.desk) c.new-piecer.ensures
    (subst (λ bytes. Puts bytes c.new-piecer.result c.put.new.self (g.D.Desk.state c.args.desk.now) (g.D.Desk.state c.put.new.desk))
    c.header.ensures c.in_ok-put.ensures)
    (subst (λ bytes. FailsToPut bytes c.put.new.self c.put_merges.new.piecer (g.D.Desk.state c.put.new.desk) (g.D.Desk.state c.put_merges.new.desk))
    (ap (flat_map merge_bytes) c.merges.ensures.value) c.in_err-put_merges.ensures))

pub returns : goal.returns
returns g c =
    let head = tree_header c.args.tree.now.axes c.args.tree.now.threshold (length c.args.tree.now.merges) in
    finish_all c.finish.result Tree (head ++ flat_map merge_bytes c.args.tree.now.merges)
    c.new-piecer.result c.put_merges.new.piecer
    (g.D.Desk.state c.args.desk.now) (g.D.Desk.state c.put_merges.new.desk) (g.D.Desk.state c.finish.new.desk) c.new-piecer.ensures
    (Puts-more head (flat_map merge_bytes c.args.tree.now.merges) _ _ _ _ _ _
    (subst (λ bytes. Puts bytes c.new-piecer.result c.put.new.self (g.D.Desk.state c.args.desk.now) (g.D.Desk.state c.put.new.desk))
    c.header.ensures c.in_ok-put.ensures)
    (subst (λ bytes. Puts bytes c.put.new.self c.put_merges.new.piecer (g.D.Desk.state c.put.new.desk) (g.D.Desk.state c.put_merges.new.desk))
    (ap (flat_map merge_bytes) c.merges.ensures.value) c.in_ok-put_merges.ensures))
    c.finish.ensures
