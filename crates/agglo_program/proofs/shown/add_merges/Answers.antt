use Rattle.agglo_program.proofs.ShownLines.{gains_merge}
use Rattle.agglo_program.proofs.shown.add_merges.Goals as goal

pub loop-merge-preserved : goal.loop-merge-preserved
loop-merge-preserved c = gains_merge c.args.merges.now c.loop-merge.merge-index c.merge-item.result _ _ _ _
    c.loop-merge-test.true c.merge-item.is c.loop-merge.invariant c.in_ok-add_names.ensures c.in_ok-add_contact.ensures
