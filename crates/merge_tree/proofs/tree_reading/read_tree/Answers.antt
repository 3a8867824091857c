use Rattle.std.proofs.Common.{List, ℕ, ◌+◌, ◌*◌, refl, sym, subst}
use Rattle.std.proofs.lemmas.Result.{err_from_is_err_and, MatchResult-weaker}
use Rattle.agglo_model.specs.TreeFile.{record_length}
use Rattle.merge_tree.specs.TreeReading.{ReadsUpTo}
use Rattle.merge_tree.proofs.WholeTrees.{no_head, no_rest, reads_tree, finds_bad_tree}
use Rattle.merge_tree.proofs.tree_reading.read_tree.Goals as goal

pub returns-in_err-head : goal.returns-in_err-head
returns-in_err-head g c =
    let p = err_from_is_err_and c.from_residual.result c.from_residual.ensures.1 in
    rw (p.1, p.2) (no_head c.in_err-head.field-0.0 _ _ c.in_err-head.ensures)

pub returns-in_err-body : goal.returns-in_err-body
returns-in_err-body g c =
    let p = err_from_is_err_and c.from_residual-in_err-body.result c.from_residual-in_err-body.ensures.1 in
    rw (p.1, p.2) (no_rest c.in_ok-head.head _ c.in_err-body.field-0.0 _ _ _ refl c.in_ok-head.ensures c.in_err-body.ensures)

pub returns : goal.returns
returns g c =
    let read = subst (λ (bytes : List ℕ). ReadsUpTo (record_length * c.in_ok-head.head.merges + 1) bytes (g.D.Desk.state c.read_head.new.desk) (g.D.Desk.state c.read_up_to.new.desk))
    (sym c.deref.ensures.value) c.in_ok-body.ensures in
    MatchResult-weaker c.tree_of.result c.tree_of.ensures
    (λ tree h. reads_tree c.in_ok-head.head _ c.deref.result.now tree _ _ _ refl c.in_ok-head.ensures read h.0 h.1)
    (λ fault tells. finds_bad_tree fault c.in_ok-head.head _ c.deref.result.now _ _ _ refl c.in_ok-head.ensures read tells)
