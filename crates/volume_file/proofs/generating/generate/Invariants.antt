use Rattle.std.proofs.Common.{◌≡◌, ◌*◌, map}
use Rattle.std.specs.List.{range_with_len}
use Rattle.agglo_model.specs.Generated.{generated_byte}
use Rattle.volume_file.specs.Generating.{StandsAt}
use Rattle.volume_file.proofs.generating.generate.Given as goal

abbrev pub invariant-loop : goal.invariant-loop
invariant-loop l = (l.body.items ≡ map (generated_byte l.start) (range_with_len 0 (65536 * l.counter)))
    × StandsAt l.start (65536 * l.counter) l.sequence
