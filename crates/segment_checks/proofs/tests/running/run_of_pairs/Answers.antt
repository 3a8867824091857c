use Rattle.segment_checks.proofs.tests.running.run_of_pairs.Goals as goal

pub new-site-requires-clause-connected : goal.new-site-requires-clause-connected
new-site-requires-clause-connected g c =
    c.basins_are_connected.ensures c.in_ok-vol.vol 1 c.in_ok-labels.labels.labels c.in_ok-labels.ensures.basins
