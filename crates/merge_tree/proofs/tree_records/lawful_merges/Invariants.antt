use Rattle.agglo_model.specs.TreeFile.{merges_in}
use Rattle.merge_tree.proofs.Judged.{HasJudged}
use Rattle.merge_tree.proofs.tree_records.lawful_merges.Given as goal

abbrev pub invariant-loop-i : goal.invariant-loop-i
invariant-loop-i l =
    HasJudged l.head.dims l.head.threshold (merges_in l.head.merges l.body) l.i l.merges.items l.absorbed.items
