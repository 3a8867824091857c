use Rattle.std.proofs.Common.{drop}
use Rattle.seg_io.specs.Desk.{IsListed}
use Rattle.seg_io.proofs.opened_ports.OpenedPorts.name_of.Given as goal

abbrev pub invariant-loop-opened : goal.invariant-loop-opened
invariant-loop-opened l = IsListed l.port l.opened-items → IsListed l.port (drop l.opened-index l.opened-items)
