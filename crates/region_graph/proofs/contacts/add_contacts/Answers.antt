use Rattle.std.proofs.Common.{arith}
use Rattle.region_graph.proofs.Halves.{volume_box}
use Rattle.region_graph.proofs.contacts.add_contacts.Goals as goal

pub gather-requires-clause-room : goal.gather-requires-clause-room
gather-requires-clause-room c =
    let cell = c.args.cell.now in
    omega (arith, volume_box c.args.site.now.grid.axes cell.lo cell.hi c.requires.cell_fits, c.requires.room)

pub returns-clause-count : goal.returns-clause-count
returns-clause-count c =
    let cell = c.args.cell.now in
    omega (arith, volume_box c.args.site.now.grid.axes cell.lo cell.hi c.requires.cell_fits, c.in_ok-gather.ensures.count)
