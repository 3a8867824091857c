use Rattle.std.proofs.Common.{◌≡◌, ◌+◌, ◌++◌, ◌<◌, ◌≤◌, List, [], length, map, get_or, take, sym, ap, ◌∙◌, subst, arith}
use Rattle.std.specs.Prelude.{IsPermutation}
use Rattle.std.specs.List.Sorted.{IsNonDecreasingBy}
use Rattle.std.proofs.lemmas.List.{get_or-map, length-map}
use Rattle.std.proofs.lemmas.List.Sorted.{sum_by-IsPermutation}
use Rattle.agglo_model.specs.RegionGraph.{GraphEdge}
use Rattle.region_graph.specs.Lists.{AreSummed, count_of, order_of}
use Rattle.region_graph.specs.Sorting.{joined}
use Rattle.region_graph.proofs.BucketSums.{all_joined, first_count, first_rise, joined_more}
use Rattle.region_graph.proofs.EdgeSums.{none_summed, summed-ascend, summed-ordered, summed-touching, summed-contacts, summed-count}
use Rattle.region_graph.proofs.sums.sum_contacts.Goals as goal
use Rattle.region_graph.proofs.sums.sum_contacts.Goals.{After-deref, After-loop-bucket}

pub loop-bucket-init : goal.loop-bucket-init
loop-bucket-init c = subst (AreSummed []) (sym c.new-summed.ensures.items) none_summed

-- the edges of each bucket
abbrev lists_at : After-deref → List (List GraphEdge)
lists_at c = map (λ b. b.items) c.deref-bucket-items.result.now

-- those of this one
here_at : (c : After-deref) → c.deref.result.now ≡ get_or (lists_at c) c.loop-bucket.bucket-index []
here_at c = c.deref.ensures.value ∙ ap (λ b. b.items) c.bucket-item.is
    ∙ sym (get_or-map (λ b. b.items) c.deref-bucket-items.result.now c.loop-bucket.bucket-index c.bucket-item.result [] c.loop-bucket-test.true)

within_at : (c : After-deref) → c.loop-bucket.bucket-index < length (lists_at c)
within_at c = let long = length-map c.deref-bucket-items.result.now (λ b. b.items) in omega (arith, long, c.loop-bucket-test.true)

pub add_edges-requires : goal.add_edges-requires
add_edges-requires c =
    let at = (goal.at.add_edges-requires c).After-deref in
    let lists = lists_at at in
    let k = c.loop-bucket.bucket-index in
    let less = first_count lists k c.deref.result.now (within_at at) (here_at at) in
    let so_many = c.loop-bucket.invariant.count in
    let same = ap (λ vs. joined (map (λ b. b.items) vs)) c.deref-bucket-items.ensures.value in
    let all = ap count_of same ∙ sum_by-IsPermutation (λ (e : GraphEdge). e.contact.count) c.args.edges.items _ c.in_ok-buckets.ensures.moved in
    omega (arith, less, so_many, all, c.requires.within)

pub loop-bucket-preserved : goal.loop-bucket-preserved
loop-bucket-preserved c =
    let at = (goal.at.loop-bucket-preserved c).After-deref in
    let lists = lists_at at in
    let k = c.loop-bucket.bucket-index in
    let edges = c.deref.result.now in
    let up = subst (λ vs. IsNonDecreasingBy order_of (joined (map (λ b. b.items) vs))) (sym c.deref-bucket-items.ensures.value)
    c.in_ok-buckets.ensures.sorted in
    subst (λ done. AreSummed done c.add_edges.new.summed.items) (sym (joined_more lists k edges (within_at at) (here_at at)))
    (c.in_ok-add_edges.ensures (joined (take k lists)) c.loop-bucket.invariant (first_rise lists k edges (within_at at) (here_at at) up))

-- after the last bucket
all_at : (c : After-loop-bucket) → AreSummed (joined (map (λ b. b.items) c.in_ok-buckets.buckets.items)) c.loop-bucket.summed.items
all_at c =
    let vs = c.deref-bucket-items.result.now in
    let lists : List (List GraphEdge) = map (λ b. b.items) vs in
    let long = length-map vs (λ b. b.items) in
    subst (λ done. AreSummed done c.loop-bucket.summed.items)
    (all_joined lists c.loop-bucket.bucket-index (omega (arith, long, c.loop-bucket-test.false))
    ∙ ap (λ ws. joined (map (λ b. b.items) ws)) c.deref-bucket-items.ensures.value) c.loop-bucket.invariant

pub returns-clause-ascend : goal.returns-clause-ascend
returns-clause-ascend c =
    summed-ascend (joined (map (λ b. b.items) c.in_ok-buckets.buckets.items)) c.loop-bucket.summed.items
    (all_at (goal.at.returns-clause-ascend c).After-loop-bucket)

pub returns-clause-ordered : goal.returns-clause-ordered
returns-clause-ordered c =
    summed-ordered c.args.edges.items (joined (map (λ b. b.items) c.in_ok-buckets.buckets.items)) c.loop-bucket.summed.items
    (all_at (goal.at.returns-clause-ordered c).After-loop-bucket) c.in_ok-buckets.ensures.moved c.requires.ordered

pub returns-clause-touching : goal.returns-clause-touching
returns-clause-touching c =
    summed-touching (joined (map (λ b. b.items) c.in_ok-buckets.buckets.items)) c.loop-bucket.summed.items
    (all_at (goal.at.returns-clause-touching c).After-loop-bucket)

pub returns-clause-contacts : goal.returns-clause-contacts
returns-clause-contacts c =
    summed-contacts c.args.edges.items (joined (map (λ b. b.items) c.in_ok-buckets.buckets.items)) c.loop-bucket.summed.items
    (all_at (goal.at.returns-clause-contacts c).After-loop-bucket) c.in_ok-buckets.ensures.moved

pub returns-clause-count : goal.returns-clause-count
returns-clause-count c =
    summed-count c.args.edges.items (joined (map (λ b. b.items) c.in_ok-buckets.buckets.items)) c.loop-bucket.summed.items
    (all_at (goal.at.returns-clause-count c).After-loop-bucket) c.in_ok-buckets.ensures.moved
