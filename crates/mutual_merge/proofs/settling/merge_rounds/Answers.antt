use Rattle.std.proofs.Common.{◌≡◌, ◌∙◌, ◌++◌, ◌<◌, ℕ, List, true, false, eqb, map, length, sym, subst, arith}
use Rattle.std.proofs.lemmas.Bool.Decides.{nat_tests}
use Rattle.agglo_model.specs.PairOrder.{Threshold}
use Rattle.agglo_model.specs.RegionGraph.{Region}
use Rattle.mutual_merge.specs.declared.links.Link.{Link}
use Rattle.mutual_merge.specs.Linked.{graph_of}
use Rattle.mutual_merge.specs.Pairs.{IsPairing, merge_of}
use Rattle.mutual_merge.specs.Merged.{AreMerged, AreMutual}
use Rattle.mutual_merge.specs.Rounds.{Carries, HasMerged}
use Rattle.mutual_merge.proofs.TrimmedGraphs.{carries_trimmed, carries_round}
use Rattle.mutual_merge.proofs.PairRounds.{AreMutual-pairing, linked_graph, pairs_lead, fewer_regions, none_reciprocal}
use Rattle.mutual_merge.proofs.settling.merge_rounds.Goals as goal
use Rattle.mutual_merge.proofs.settling.merge_rounds.Goals.{After-is_empty, In_ok-graph-2}

-- the merges so far make the graph without the regions that were let go
trimmed_carries : (c : After-is_empty) → Carries c.args.threshold.now c.args.frozen
    (graph_of c.args.start.regions.items c.args.start.links.items) c.loop-merges.merges.items
    (graph_of c.in_ok-graph.graph.regions.items c.in_ok-graph.graph.links.items)
trimmed_carries c =
    carries_trimmed c.args.threshold.now c.args.frozen (graph_of c.args.start.regions.items c.args.start.links.items)
    (graph_of c.loop-merges.graph.regions.items c.loop-merges.graph.links.items)
    (graph_of c.in_ok-graph.graph.regions.items c.in_ok-graph.graph.links.items) c.loop-merges.merges.items
    (linked_graph c.loop-merges.graph.regions.items c.loop-merges.graph.links.items c.loop-merges.invariant.linked)
    c.in_ok-graph.ensures.left_is c.loop-merges.invariant.carries

pairing_is : (c : After-is_empty) → IsPairing c.args.threshold.now c.args.frozen c.in_ok-graph.graph.regions.items c.in_ok-graph.graph.links.items
    c.in_ok-pairing.pairing.mates.items c.in_ok-pairing.pairing.pairs.items
pairing_is c = c.in_ok-pairing.ensures

is_zero : (n : ℕ) → true ≡ eqb n 0 → n ≡ 0
is_zero n test = grind (arith, nat_tests)

is_some : (n : ℕ) → false ≡ eqb n 0 → 0 < n
is_some n test = grind (arith, nat_tests)

-- the trimmed graph, and the merges so far
pub merged_so_far : (c : After-is_empty) → HasMerged c.args.threshold.now c.args.frozen c.args.start.regions.items c.args.start.links.items
    c.loop-merges.merges.items c.in_ok-graph.graph.regions.items c.in_ok-graph.graph.links.items
merged_so_far c =
    let before = c.loop-merges.invariant.fewer in
    let after = c.in_ok-graph.ensures.fewer in
    record { linked = c.in_ok-graph.ensures.linked; fewer = omega (arith, before, after); carries = trimmed_carries c }

pub returns-then-is_empty-clause-merged : goal.returns-then-is_empty-clause-merged
returns-then-is_empty-clause-merged c = merged_so_far (goal.at.returns-then-is_empty-clause-merged c).After-is_empty

pub returns-then-is_empty-clause-settled : goal.returns-then-is_empty-clause-settled
returns-then-is_empty-clause-settled c =
    let pairing = pairing_is (goal.at.returns-then-is_empty-clause-settled c).After-is_empty in
    let pairs = c.in_ok-pairing.pairing.pairs in
    let none : length pairs.items ≡ 0 = sym pairs.ok.0 ∙ is_zero pairs.len c.if-is_empty.ensures in
    none_reciprocal c.args.threshold.now c.args.frozen c.in_ok-graph.graph.regions.items c.in_ok-graph.graph.links.items
    c.in_ok-pairing.pairing.mates.items pairs.items c.in_ok-graph.ensures.linked pairing none

merged_is : (c : In_ok-graph-2) → AreMerged c.in_ok-graph.graph.regions.items c.in_ok-graph.graph.links.items
    c.in_ok-pairing.pairing.mates.items c.in_ok-graph-2.graph.regions.items c.in_ok-graph-2.graph.links.items
merged_is c =
    let kept : List Region = c.in_ok-graph-2.graph.regions.items in
    let joined : List Link = c.in_ok-graph-2.graph.links.items in
    subst (λ rs. AreMerged rs c.in_ok-graph.graph.links.items c.in_ok-pairing.pairing.mates.items kept joined) c.deref-in-loop-merges-4.ensures.value
    (subst (λ ls. AreMerged c.deref-in-loop-merges-4.result.now ls c.in_ok-pairing.pairing.mates.items kept joined) c.deref-in-loop-merges-5.ensures.value
    (subst (λ ms. AreMerged c.deref-in-loop-merges-4.result.now c.deref-in-loop-merges-5.result.now ms kept joined) c.deref-in-loop-merges-6.ensures.value
    c.in_ok-graph-2.ensures))

pub loop-merges-smaller : goal.loop-merges-smaller
loop-merges-smaller c =
    let pairing = pairing_is (goal.at.loop-merges-smaller c).After-is_empty in
    let merged = merged_is (goal.at.loop-merges-smaller c).In_ok-graph-2 in
    let pairs = c.in_ok-pairing.pairing.pairs in
    let some : 0 < length pairs.items = subst (λ n. 0 < n) pairs.ok.0 (is_some pairs.len c.if-is_empty.ensures) in
    let few = c.in_ok-graph.ensures.few in
    let fewer = fewer_regions c.args.threshold.now c.args.frozen c.in_ok-graph.graph.regions.items c.in_ok-graph.graph.links.items
    c.in_ok-pairing.pairing.mates.items pairs.items c.in_ok-graph-2.graph.regions.items c.in_ok-graph-2.graph.links.items
    c.in_ok-graph.ensures.linked pairing merged some in
    omega (arith, few, fewer)

pub loop-merges-preserved : goal.loop-merges-preserved
loop-merges-preserved c =
    let pairing = pairing_is (goal.at.loop-merges-preserved c).After-is_empty in
    let merged = merged_is (goal.at.loop-merges-preserved c).In_ok-graph-2 in
    let pairs = c.in_ok-pairing.pairing.pairs in
    let some : 0 < length pairs.items = subst (λ n. 0 < n) pairs.ok.0 (is_some pairs.len c.if-is_empty.ensures) in
    let t : Threshold = c.args.threshold.now in
    let regions : List Region = c.in_ok-graph.graph.regions.items in
    let links : List Link = c.in_ok-graph.graph.links.items in
    let kept : List Region = c.in_ok-graph-2.graph.regions.items in
    let joined : List Link = c.in_ok-graph-2.graph.links.items in
    let start = graph_of c.args.start.regions.items c.args.start.links.items in
    let noted : c.note_merges.new.merges.items ≡ c.loop-merges.merges.items ++ map (merge_of regions) pairs.items =
    c.in_ok-note_merges.ensures
    ∙ (λ i. c.loop-merges.merges.items ++ map (merge_of (c.deref-in-loop-merges-2.ensures.value i)) (c.deref-in-loop-merges-3.ensures.value i)) in
    let before = c.loop-merges.invariant.fewer in
    let after = c.in_ok-graph.ensures.fewer in
    let least = merged.fewer in
    record {
      linked = merged.linked;
      fewer = omega (arith, before, after, least);
      carries = subst (λ ms. Carries t c.args.frozen start ms (graph_of kept joined)) (sym noted)
          (carries_round t c.args.frozen start (graph_of regions links) (graph_of kept joined) c.loop-merges.merges.items
          (map (merge_of regions) pairs.items)
          (pairs_lead t c.args.frozen regions links c.in_ok-pairing.pairing.mates.items pairs.items kept joined
          c.in_ok-graph.ensures.linked pairing merged some)
          (trimmed_carries (goal.at.loop-merges-preserved c).After-is_empty));
    }

pub merge_mates-requires-clause-back : goal.merge_mates-requires-clause-back
merge_mates-requires-clause-back c =
    let regions : List Region = c.in_ok-graph.graph.regions.items in
    let mates : List ℕ = c.in_ok-pairing.pairing.mates.items in
    let pairing = pairing_is (goal.at.merge_mates-requires-clause-back c).After-is_empty in
    subst (λ ms. AreMutual ms (length c.deref-in-loop-merges-4.result.now)) (sym c.deref-in-loop-merges-6.ensures.value)
    (subst (λ rs. AreMutual mates (length rs)) (sym c.deref-in-loop-merges-4.ensures.value)
    (AreMutual-pairing c.args.threshold.now c.args.frozen regions c.in_ok-graph.graph.links.items mates
    c.in_ok-pairing.pairing.pairs.items c.in_ok-graph.ensures.linked pairing))
