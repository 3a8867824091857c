use Rattle.std.proofs.Common.{inl, refl, ◌≡◌, sym, ◌∙◌, arith, bit_or}
use Rattle.std.specs.Vec.{vec_len}
use Rattle.agglo_model.specs.RegionGraph.{Region}
use Rattle.region_graph.specs.Lists.{with_faces_of}
use Rattle.region_graph.proofs.Gaining.{takes_in}
use Rattle.region_graph.proofs.sums.add_region.Goals as goal

pub returns-then-last-region : goal.returns-then-last-region
returns-then-last-region c =
    let last = c.in-Some.last.now in
    let n = vec_len c.args.regions.now in
    let same : last.name ≡ c.args.region.name =
    (λ i. (sym c.last.view_is i).name) ∙ c.if-last-region.true ∙ (λ i. (c.region.view_is i).name) in
    let faces : bit_or c.last.inside.faces c.region.inside.faces ≡ bit_or last.faces c.args.region.faces =
    (λ i. bit_or (c.last.view_is i).faces (c.region.view_is i).faces) in
    inl (takes_in (λ (r : Region). r.name) with_faces_of c.args.region c.args.regions.now.items last _ n (omega arith) (c.in-Some.ensures.variant.0 refl)
    c.in-Some.ensures.value same (λ i. record (c.last.view_is i) { faces = faces i }))
