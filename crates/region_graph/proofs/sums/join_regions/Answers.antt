use Rattle.std.proofs.Common.{rules, [], take, sym, subst}
use Rattle.std.specs.Prelude.{IsPermutation}
use Rattle.std.specs.List.Sorted.{IsNonDecreasingBy}
use Rattle.std.proofs.lemmas.List.Sorted.{IsNonDecreasingBy-from_sort_by_key}
use Rattle.agglo_model.specs.RegionGraph.{Region}
use Rattle.region_graph.proofs.Gaining.{all_moved}
use Rattle.region_graph.proofs.RegionSums.{AreTogether, none_together, together_next, together-named, together-same}
use Rattle.region_graph.proofs.sums.join_regions.Goals as goal
use Rattle.region_graph.proofs.sums.join_regions.Goals.{After-loop-region}

pub loop-region-init : goal.loop-region-init
loop-region-init c = subst (AreTogether []) (sym c.new-joined.ensures.items) none_together

pub loop-region-preserved : goal.loop-region-preserved
loop-region-preserved c =
    let up = subst (IsNonDecreasingBy (λ (r : Region). r.name)) (sym c.deref-region-items.ensures.value)
    (IsNonDecreasingBy-from_sort_by_key (λ (r : Region). r.name) c.sort_unstable_by_key.new.self.items c.sort_unstable_by_key.ensures.sorted (λ a r q k. search rules)) in
    together_next c.deref-region-items.result.now c.loop-region.region-index c.loop-region.joined.items c.add_region.new.regions.items
    c.region-item.result c.loop-region-test.true c.region-item.is up c.loop-region.invariant c.in_ok-add_region.ensures

pub returns-clause-ascend : goal.returns-clause-ascend
returns-clause-ascend c = c.loop-region.invariant.keyed.ascend

-- all of the list has been gone over, in another order
moved : (c : After-loop-region) → IsPermutation c.args.regions.items (take c.loop-region.region-index c.deref-region-items.result.now)
moved c = all_moved c.args.regions.items c.sort_unstable_by_key.new.self.items c.deref-region-items.result.now c.loop-region.region-index
    c.sort_unstable_by_key.ensures.permutation c.deref-region-items.ensures.value c.loop-region-test.false

pub returns-clause-named : goal.returns-clause-named
returns-clause-named c =
    let k = c.loop-region.region-index in
    together-named c.args.regions.items (take k c.deref-region-items.result.now) c.loop-region.joined.items c.loop-region.invariant
    (moved (goal.at.returns-clause-named c).After-loop-region)

pub returns-clause-same : goal.returns-clause-same
returns-clause-same c =
    let k = c.loop-region.region-index in
    together-same c.args.regions.items (take k c.deref-region-items.result.now) c.loop-region.joined.items c.loop-region.invariant
    (moved (goal.at.returns-clause-same c).After-loop-region)
