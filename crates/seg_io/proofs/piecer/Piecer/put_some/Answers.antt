use Rattle.std.proofs.Common.{arith}
use Rattle.seg_io.proofs.Piecing.{full_fails}
use Rattle.seg_io.proofs.piecer.Piecer.put_some.Goals as goal

pub returns-in-Err : goal.returns-in-Err
returns-in-Err g c =
    full_fails _ _ _ _ _ _ _ _ _ _ _ c.self.view_is c.copy_to-taken.ensures.front (omega arith) c.in-Err.ensures
