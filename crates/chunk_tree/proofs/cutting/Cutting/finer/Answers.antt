use Rattle.chunk_tree.proofs.Halving.{as_finer}
use Rattle.chunk_tree.proofs.cutting.Cutting.finer.Goals as goal
use Rattle.chunk_tree.proofs.cutting.Cutting.finer.Goals.{then-longest-side+in-Some, then-longest-side+in_default, else-longest-side}

pub loop-times-preserved : goal.loop-times-preserved
loop-times-preserved c = elim c.if-longest-side.branch [
  | then-longest-side+in-Some w ↦
      (as_finer c.args.self.now _ _ _ _ w.cutting-is w.levels-is w.in-Some.ensures, c.loop-times.invariant.1)
  | then-longest-side+in_default w ↦
      (as_finer c.args.self.now _ _ _ _ w.cutting-is w.levels-is c.loop-times.invariant.0, c.loop-times.invariant.1)
  | else-longest-side w ↦
      (as_finer c.args.self.now _ _ _ _ w.cutting-is w.levels-is c.loop-times.invariant.0, c.loop-times.invariant.1)
]
