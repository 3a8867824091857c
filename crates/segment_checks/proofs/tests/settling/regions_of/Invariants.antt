use Rattle.std.proofs.Common.{◌≡◌, map, take}
use Rattle.segment_checks.specs.Samples.{sample_region}
use Rattle.segment_checks.proofs.tests.settling.regions_of.Given as goal

abbrev pub invariant-loop-name : goal.invariant-loop-name
invariant-loop-name l = l.regions.items ≡ map sample_region (take l.name-index l.numbers)
