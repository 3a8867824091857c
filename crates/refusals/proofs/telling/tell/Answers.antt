use Rattle.std.proofs.Common.{List, ℕ, subst}
use Rattle.seg_io.specs.Piecing.{Puts}
use Rattle.seg_io.proofs.Piecing.{finish_all}
use Rattle.seg_io.specs.declared.port.Port.TheVariants.{Trouble}
use Rattle.refusals.specs.Refusal.{line_of}
use Rattle.refusals.proofs.telling.tell.Goals as goal

pub returns : goal.returns
returns g c =
    finish_all c.finish.result Trouble (line_of c.args.refusal.now) c.new-piecer.result c.put_line.new.piecer
    (g.D.Desk.state c.args.desk.now) (g.D.Desk.state c.put_line.new.desk) (g.D.Desk.state c.finish.new.desk) c.new-piecer.ensures
    (subst (λ (bytes : List ℕ). Puts bytes c.new-piecer.result c.put_line.new.piecer (g.D.Desk.state c.args.desk.now) (g.D.Desk.state c.put_line.new.desk))
    c.of-line.ensures c.in_ok-put_line.ensures)
    c.finish.ensures
