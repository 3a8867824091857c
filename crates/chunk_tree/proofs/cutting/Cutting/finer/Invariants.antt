use Rattle.agglo_model.specs.Cutting.{IsChunking}
use Rattle.agglo_model.specs.Finer.{IsFiner}
use Rattle.chunk_tree.proofs.cutting.Cutting.finer.Given as goal

abbrev pub invariant-loop-times : goal.invariant-loop-times
invariant-loop-times l = IsFiner l.self l.cutting l.levels × IsChunking l.self
