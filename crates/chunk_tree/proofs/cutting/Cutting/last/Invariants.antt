use Rattle.std.proofs.Common.{◌-◌}
use Rattle.agglo_model.specs.Cutting.{IsChunking, last_level}
use Rattle.chunk_tree.specs.Levels.{IsLevel}
use Rattle.chunk_tree.proofs.cutting.Cutting.last.Given as goal

abbrev pub invariant-loop-level : goal.invariant-loop-level
invariant-loop-level l = IsLevel l.self l.level × IsChunking l.self

abbrev pub decreases-loop-level : goal.decreases-loop-level
decreases-loop-level l = last_level l.self - l.level.number
