use Rattle.std.proofs.Common.{◌≡◌, [], ◌≤◌, ◌^◌, Bool, false, List, length, replicate, sym, ap, ◌∙◌, subst, arith}
use Rattle.std.proofs.lemmas.List.{length-replicate}
use Rattle.agglo_model.specs.Greedy.{Merge}
use Rattle.agglo_model.specs.RegionGraph.{Region, grid_edges}
use Rattle.mutual_merge.specs.declared.links.Link.{Link}
use Rattle.mutual_merge.specs.Hubs.{AreReady}
use Rattle.mutual_merge.specs.Indexed.{IsIndexed}
use Rattle.mutual_merge.specs.Linked.{graph_of, link_edges, name_at}
use Rattle.mutual_merge.specs.Rounds.{Carries}
use Rattle.mutual_merge.specs.Slots.{AreListed, AreSlotLinks, AreSlots, HaveMergedInto, Stands, live_edges}
use Rattle.mutual_merge.proofs.LinkedEdges.{same_sums}
use Rattle.mutual_merge.proofs.LinkedStands.{linked_stands}
use Rattle.mutual_merge.proofs.Relinked.{AreSlotLinks-from_links, live_edges-le}
use Rattle.mutual_merge.proofs.chains.merge_chains.Goals as goal
use Rattle.mutual_merge.proofs.chains.merge_chains.Goals.{After-deref-3, In_ok-merging}

grid_edges_are : (regions : List Region) (links : List Link) → grid_edges (graph_of regions links) ≡ link_edges links
grid_edges_are regions links = same_sums (name_at regions) links

indexed_at_start : (c : In_ok-merging) → IsIndexed c.in_ok-slots.slots
indexed_at_start c =
    let e = c.in_ok-slots.ensures in
    let n = length c.args.graph.regions.items in
    let as_many : n ≡ length c.in_ok-slots.slots.regions.items = sym (ap length e.regions) in
    record {
      listed = record {
        one_each = ap length e.closed ∙ length-replicate n false ∙ as_many;
        links_are = subst (λ m. AreSlotLinks m c.in_ok-slots.slots.links.items) as_many
            (subst (λ (ls : List Link). AreSlotLinks n ls) (sym e.links) (AreSlotLinks-from_links n c.args.graph.links.items c.requires.links_are));
        listed = subst (λ m. AreListed m c.in_ok-slots.slots.links.items c.in_ok-slots.slots.lists) as_many
            (subst (λ (ls : List Link). AreListed n ls c.in_ok-slots.slots.lists) (sym e.links) e.listed);
        marked = e.marked ∙ as_many;
      };
      ready = subst (λ (ls : List Link). AreReady ls c.in_ok-slots.slots.hubs) (sym e.links) e.ready;
    }

pub loop-slot-init : goal.loop-slot-init
loop-slot-init c =
    let slots = c.in_ok-slots.slots in
    let regions : List Region = c.args.graph.regions.items in
    let links : List Link = c.args.graph.links.items in
    let t = c.args.threshold.now in
    let start = graph_of regions links in
    let e = c.in_ok-slots.ensures in (
      indexed_at_start c,
      subst (λ (ms : List Merge). HaveMergedInto t c.args.frozen start ms slots.regions.items slots.closed.items slots.links.items) (sym c.in_ok-merging.ensures)
          (subst (λ (rs : List Region). HaveMergedInto t c.args.frozen start [] rs slots.closed.items slots.links.items) (sym e.regions)
          (subst (λ (bs : List Bool). HaveMergedInto t c.args.frozen start [] regions bs slots.links.items) (sym e.closed)
          (subst (λ (ls : List Link). HaveMergedInto t c.args.frozen start [] regions (replicate (length regions) false) ls) (sym e.links)
          (record {
            graph = start;
            carries = λ more left settles. settles;
            stands = linked_stands regions links c.requires;
            few = c.requires.fit;
            fewer = subst (λ n. live_edges links ≤ n) (sym (grid_edges_are regions links)) (live_edges-le links);
          })))),
    )

pub close-requires-clause-fit : goal.close-requires-clause-fit
close-requires-clause-fit c = subst (λ (rs : List Region). length rs ≤ 2 ^ 32) (sym c.deref.ensures.value) c.loop-slot.invariant.1.few

pub close-requires-clause-slots : goal.close-requires-clause-slots
close-requires-clause-slots c =
    subst (λ (rs : List Region). AreSlots rs c.deref-2.result.now c.deref-3.result.now) (sym c.deref.ensures.value)
    (subst (λ (bs : List Bool). AreSlots c.loop-slot.slots.regions.items bs c.deref-3.result.now) (sym c.deref-2.ensures.value)
    (subst (λ (ls : List Link). AreSlots c.loop-slot.slots.regions.items c.loop-slot.slots.closed.items ls) (sym c.deref-3.ensures.value)
    c.loop-slot.invariant.1.stands.slots))

pub returns : goal.returns
returns c =
    let into = c.loop-slot.invariant.1 in
    let regions : List Region = c.args.graph.regions.items in
    let links : List Link = c.args.graph.links.items in
    let left = c.in_ok-graph.graph in
    let stands : Stands into.graph c.deref.result.now c.deref-2.result.now c.deref-3.result.now =
    subst (λ (rs : List Region). Stands into.graph rs c.deref-2.result.now c.deref-3.result.now) (sym c.deref.ensures.value)
    (subst (λ (bs : List Bool). Stands into.graph c.loop-slot.slots.regions.items bs c.deref-3.result.now) (sym c.deref-2.ensures.value)
    (subst (λ (ls : List Link). Stands into.graph c.loop-slot.slots.regions.items c.loop-slot.slots.closed.items ls) (sym c.deref-3.ensures.value) into.stands)) in
    let live : live_edges c.deref-3.result.now ≤ link_edges links =
    subst (λ (ls : List Link). live_edges ls ≤ link_edges links) (sym c.deref-3.ensures.value)
    (subst (λ n. live_edges c.loop-slot.slots.links.items ≤ n) (grid_edges_are regions links) into.fewer) in
    let few = c.in_ok-graph.ensures.fewer in
    record {
      linked = c.in_ok-graph.ensures.linked;
      fewer = omega (arith, few, live);
      carries = subst (λ g. Carries c.args.threshold.now c.args.frozen (graph_of regions links) c.loop-slot.merging.merges.items g)
          (sym (c.in_ok-graph.ensures.same into.graph stands)) into.carries;
    }
