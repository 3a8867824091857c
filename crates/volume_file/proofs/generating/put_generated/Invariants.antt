use Rattle.std.proofs.Common.{◌*◌, map}
use Rattle.std.specs.List.{range_with_len}
use Rattle.agglo_model.specs.Generated.{generated_byte}
use Rattle.seg_io.specs.Piecing.{Puts}
use Rattle.volume_file.specs.Generating.{StandsAt}
use Rattle.volume_file.proofs.generating.put_generated.Given as goal

abbrev pub invariant-loop : goal.invariant-loop
invariant-loop g l = Puts (map (generated_byte l.start) (range_with_len 0 (65536 * l.counter))) l.initial.piecer l.piecer
    (g.D.Desk.state l.initial.desk) (g.D.Desk.state l.desk)
    × StandsAt l.start (65536 * l.counter) l.sequence
