use Rattle.std.proofs.Common.{◌≡◌, ◌<◌, ◌-◌, List, IfOk, ◌∙◌, sym, ap, subst, arith}
use Rattle.std.specs.List.{AllZip, range_with_len}
use Rattle.std.proofs.lemmas.Result.{MatchResult-weaker}
use Rattle.agglo_model.specs.Cutting.{Chunking, cells_at}
use Rattle.agglo_model.specs.Grid.{Grid}
use Rattle.steepest_ascent.specs.CellEnds.{CellEnds}
use Rattle.face_pointers.specs.Pieces.{AreClimbs, IsLeafClimb}
use Rattle.rayon.specs.Numbers.{nat_range}
use Rattle.rayon.proofs.ToStd.{nat_range-All}
use Rattle.segment_run.proofs.Ordered.{climbs_from}
use Rattle.segment_run.proofs.basin_run.climb_all.Goals as goal

pub collect-requires-clause-ready : goal.collect-requires-clause-ready
collect-requires-clause-ready g c κs within =
    let ends = c.into_par_iter.ensures in
    let inside = nat_range-All (λ leaf. leaf < cells_at c.args.cutting.now 0) 0 c.leaves.result
    (λ leaf low high. omega (arith, c.leaves.ensures.value)) in
    rw (c.map.ensures.base, c.map.ensures.f, c.with_min_len.ensures.base, ends.0, ends.1)
    (λ k d lt. ((inside k d lt, c.requires), λ y p. tt))

pub returns : goal.returns
returns g c =
    let v : Grid = c.args.vol.now in
    let t : Chunking = c.args.cutting.now in
    let low = c.args.low in
    let n = c.leaves.result in
    let given = c.in_ok-collect.ensures in
    let ends = c.into_par_iter.ensures in
    let chain = rw (c.map.ensures.base, c.map.ensures.f, c.with_min_len.ensures.base) at given.1 in
    let whole : n - 0 ≡ n = omega arith in
    let places = chain.1 ∙ (λ i. nat_range (ends.0 i) (ends.1 i)) ∙ ap (range_with_len 0) whole in
    let zip = subst (λ l. AllZip (λ leaf answer. IfOk answer (λ piece. IsLeafClimb v low t leaf piece)) l given.0) places chain.2 in
    MatchResult-weaker c.in_ok-collect.field-0 given.2
    (λ pieces all. subst (λ (l : List CellEnds). AreClimbs v low t l) (sym all.2)
    (climbs_from v low t n given.0 all.0 c.leaves.ensures.value zip all.1))
    (λ e no_memory. tt)
