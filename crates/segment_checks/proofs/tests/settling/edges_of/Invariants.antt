use Rattle.std.proofs.Common.{◌≡◌, map, take}
use Rattle.segment_checks.specs.Samples.{sample_edge}
use Rattle.segment_checks.proofs.tests.settling.edges_of.Given as goal

abbrev pub invariant-loop-a : goal.invariant-loop-a
invariant-loop-a l = l.edges.items ≡ map sample_edge (take l.a-index l.numbers)
