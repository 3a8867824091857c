use Rattle.std.proofs.Common.{◌≡◌}
use Rattle.agglo_model.specs.Cutting.{IsChunking}
use Rattle.chunk_tree.specs.Levels.{IsLevel}
use Rattle.chunk_tree.proofs.cutting.Cutting.level.Given as goal

abbrev pub invariant-loop : goal.invariant-loop
invariant-loop l = IsLevel l.self l.level × IsChunking l.self × (l.level.number ≡ l.counter)
