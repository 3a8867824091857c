use Rattle.face_pointers.specs.Pieces.{Parts}
use Rattle.face_pointers.proofs.Pieces.{parts_of_climbs}
use Rattle.face_pointers.proofs.exits.Exits.of.Goals as goal

pub invariant_of-result : goal.invariant_of-result
invariant_of-result c =
    let p : Parts = record { grid = c.args.vol.now; low = c.args.low; cutting = c.args.cutting.now } in
    parts_of_climbs p c.args.pieces.items
    (record { whole = c.dims-2.ensures.whole; cutting = c.dims.ensures.cutting; axes = c.requires.axes }) c.requires.climbs
