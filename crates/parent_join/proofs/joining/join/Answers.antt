use Rattle.std.proofs.Common.{◌≡◌, ◌<◌, ◌≤◌, ◌++◌, sym, ◌∙◌, subst}
use Rattle.std.specs.Prelude.{AllPairs, filter}
use Rattle.std.proofs.lemmas.List.{length-map}
use Rattle.agglo_model.specs.Joining.{IsJoined, kept_edges}
use Rattle.agglo_model.specs.PairOrder.{most_edges}
use Rattle.region_graph.specs.Lists.{AreOrdered, count_of}
use Rattle.agglo_model.specs.RegionGraph.{Region}
use Rattle.region_graph.specs.declared.graph.Residue.{Residue}
use Rattle.parent_join.specs.Across.{are_named}
use Rattle.parent_join.specs.Kids.{graphs_of}
use Rattle.parent_join.proofs.FirstChild.{inner}
use Rattle.parent_join.proofs.JoinedGraphs.{all_few, all_ordered, found_lists, found_across, found_joined, AreFound, AreJoined, graphs_at, joined-graph, joined-is}
use Rattle.parent_join.proofs.joining.join.Goals as goal
use Rattle.parent_join.proofs.joining.join.Goals.{In_ok-add_named, In_ok-edges}

pub add_named-requires : goal.add_named-requires
add_named-requires c = subst (AllPairs (λ (r : Region) s. r.name < s.name)) (sym c.deref-2.ensures.value) c.in_ok-regions-2.ensures.ascend

-- the edges that are summed up last
all_edges : (c : In_ok-add_named) → c.add_named.new.edges.items
    ≡ kept_edges (graphs_of c.args.kids) ++ filter (are_named c.in_ok-regions-2.regions.items) c.in_ok-across.across.items
all_edges c =
    c.in_ok-add_named.ensures
    ∙ (λ i. c.in_ok-regions.ensures.edges i ++ filter (are_named (c.deref-2.ensures.value i)) (c.deref.ensures.value i))

-- what the children and the edges from child to child have given
found : (c : In_ok-add_named) → AreFound c.args.site.now.grid c.args.site.now.cutting c.args.m c.args.site.now.labels (graphs_of c.args.kids)
    c.in_ok-regions.field-0.regions.items c.in_ok-regions.field-0.edges.items c.in_ok-gather_across.field-0.items
found c =
    let s = c.args.site.now in
    found_lists s.grid s.cutting c.args.m s.labels (graphs_of c.args.kids) c.in_ok-regions.field-0.regions.items c.in_ok-regions.field-0.edges.items
    c.in_ok-gather_across.field-0.items c.in_ok-regions.ensures.graphs c.in_ok-regions.ensures.regions c.in_ok-regions.ensures.edges
    c.in_ok-gather_across.ensures.contacts

few : (c : In_ok-add_named) → count_of c.add_named.new.edges.items ≤ most_edges
few c =
    let s = c.args.site.now in
    let kids = graphs_of c.args.kids in
    let site = c.in_ok-gather_across.ensures.site in
    let summed = c.in_ok-across.ensures in
    let crossing = c.in_ok-across.across.items in
    subst (λ es. count_of es ≤ most_edges) (sym (all_edges c))
    (all_few s.grid s.cutting site.chunking c.args.m c.requires.node (inner s.cutting site.chunking c.args.m c.requires.node c.requires.parent)
    s.labels kids c.in_ok-regions-2.regions.items crossing site.whole.limits
    (length-map c.args.kids (λ (kid : Residue). kid.graph) ∙ c.requires.one_each) c.requires.fit
    (found_across s.grid s.cutting c.args.m s.labels kids c.in_ok-regions.field-0.regions.items c.in_ok-regions.field-0.edges.items
    c.in_ok-gather_across.field-0.items crossing (found c) summed.contacts summed.touching)
    summed.ascend summed.ordered)

joined : (c : In_ok-edges) → AreJoined c.args.site.now.grid c.args.site.now.cutting c.args.m c.args.site.now.labels (graphs_of c.args.kids)
    c.in_ok-across.across.items c.in_ok-regions-2.regions.items c.in_ok-edges.edges.items
joined c =
    let s = c.args.site.now in
    let regions = c.in_ok-regions-2.regions.items in
    let crossing = c.in_ok-across.across.items in
    let edges = c.in_ok-edges.edges.items in
    found_joined s.grid s.cutting c.args.m s.labels (graphs_of c.args.kids) c.in_ok-regions.field-0.regions.items regions
    c.in_ok-regions.field-0.edges.items c.in_ok-gather_across.field-0.items crossing c.add_named.new.edges.items edges
    (found (goal.at.In_ok-edges c).In_ok-add_named) c.in_ok-regions-2.ensures.ascend
    c.in_ok-regions-2.ensures.same c.in_ok-across.ensures.contacts c.in_ok-across.ensures.touching
    (c.in_ok-add_named.ensures
    ∙ (λ i. c.in_ok-regions.field-0.edges.items ++ filter (are_named (c.deref-2.ensures.value i)) (c.deref.ensures.value i)))
    c.in_ok-edges.ensures.contacts
    (record { ascend = c.in_ok-edges.ensures.ascend; ordered = c.in_ok-edges.ensures.ordered; touching = c.in_ok-edges.ensures.touching })

pub sum_contacts-requires-2-clause-within : goal.sum_contacts-requires-2-clause-within
sum_contacts-requires-2-clause-within c = few c

pub sum_contacts-requires-2-clause-ordered : goal.sum_contacts-requires-2-clause-ordered
sum_contacts-requires-2-clause-ordered c =
    let s = c.args.site.now in
    let kids = graphs_of c.args.kids in
    let site = c.in_ok-gather_across.ensures.site in
    subst AreOrdered (sym (all_edges c))
    (all_ordered s.grid s.cutting site.chunking c.args.m c.requires.node (inner s.cutting site.chunking c.args.m c.requires.node c.requires.parent)
    s.labels kids c.in_ok-regions-2.regions.items c.in_ok-across.across.items (graphs_at kids c.in_ok-regions.ensures.graphs) c.in_ok-across.ensures.ordered)

pub of-requires-clause-graph : goal.of-requires-clause-graph
of-requires-clause-graph c =
    let s = c.args.site.now in
    joined-graph s.grid s.cutting c.args.m s.labels (graphs_of c.args.kids) c.in_ok-across.across.items c.in_ok-regions-2.regions.items
    c.in_ok-edges.edges.items (joined (goal.at.of-requires-clause-graph c).In_ok-edges)

pub of-requires-clause-within : goal.of-requires-clause-within
of-requires-clause-within c =
    subst (λ n. n ≤ most_edges) (sym c.in_ok-edges.ensures.count) (few (goal.at.of-requires-clause-within c).In_ok-add_named)

pub returns : goal.returns
returns c =
    let s = c.args.site.now in
    let kids = graphs_of c.args.kids in
    subst (IsJoined s.grid s.cutting c.args.m s.labels kids) (sym c.of.ensures)
    (joined-is s.grid s.cutting c.args.m s.labels kids c.in_ok-across.across.items c.in_ok-regions-2.regions.items
    c.in_ok-edges.edges.items (joined (goal.at.returns c).In_ok-edges))
