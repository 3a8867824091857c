use Rattle.std.proofs.Common.{◌∙◌, ◌+◌, ◌<◌, length, set, sym, subst, arith, length-set}
use Rattle.steepest_ascent.specs.CellEnds.{Ends}
use Rattle.steepest_ascent.specs.Charts.{Chart}
use Rattle.steepest_ascent.specs.Turns.{EndsWith}
use Rattle.steepest_ascent.specs.declared.ends.End.{End}
use Rattle.steepest_ascent.specs.declared.ends.End.TheVariants.{Root}
use Rattle.steepest_ascent.proofs.CellFilling.{end_at_spot, gains_end, gains_none, name_fits, root_known}
use Rattle.steepest_ascent.proofs.cell_ascent.CellAscent.mark_root.Goals as goal

pub overflow_add-end : goal.overflow_add-end
overflow_add-end c =
    let t : Chart = c.args.self.now in
    let h : EndsWith t.grid t.low c.args.here.voxel (c.min.result + 1) =
    subst (λ n. EndsWith t.grid t.low c.args.here.voxel (n + 1)) (sym c.min.ensures) c.requires.ends.here in
    omega (arith, name_fits t.grid t.low c.args.here.voxel (c.min.result + 1) c.requires.whole h)

pub returns-clause-end : goal.returns-clause-end
returns-clause-end c =
    let t : Chart = c.args.self.now in
    end_at_spot t c.args.here (Root (c.min.result + 1)) c.requires.spot
    (Ends (subst (λ n. EndsWith t.grid t.low c.args.here.voxel (n + 1)) (sym c.min.ensures) c.requires.ends.here))

pub returns-clause-gains : goal.returns-clause-gains
returns-clause-gains c =
    let t : Chart = c.args.self.now in
    let ends = c.args.ends.now in
    let here = c.args.here in
    let far = c.args.far in
    let end : End = Root (c.min.result + 1) in
    let known = root_known (c.min.result + 1) in
    let far_at = c.requires.ends.far_spot in
    let first : here.own < length ends = subst (λ n. here.own < n) (sym c.requires.one_each) c.requires.spot.in_cell in
    let second : far.own < length (set ends here.own end) =
    subst (λ n. far.own < n) (sym (length-set ends here.own end ∙ c.requires.one_each)) far_at.in_cell in
    gains_end t ends (set ends here.own end) far.own end second
    (gains_end t ends ends here.own end first (gains_none t ends) (end_at_spot t here end c.requires.spot
    (Ends (subst (λ n. EndsWith t.grid t.low here.voxel (n + 1)) (sym c.min.ensures) c.requires.ends.here))) known)
    (end_at_spot t far end far_at
    (Ends (subst (λ n. EndsWith t.grid t.low far.voxel (n + 1)) (sym c.min.ensures) c.requires.ends.there))) known
