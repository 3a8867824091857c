-- Two graphs with the same regions and the same contacts are one.
use Rattle.std.proofs.Common.{◌≡◌, ◌≢◌, ◌⊎◌, ℕ, ◌<◌, sym, ◌∙◌, arith}
use Rattle.std.specs.Prelude.{◌↔◌, Contains}
use Rattle.agglo_model.specs.RegionGraph.{Region, GraphEdge, RegionGraph, IsGraph, StandsBefore, contact_in}
use Rattle.agglo_model.proofs.GraphEdges.{edge_contact, edge_there}
use Rattle.agglo_model.proofs.OneOrder.{one_order}

edges_in : (graph other : RegionGraph) → IsGraph graph → IsGraph other
    → ((past x y : ℕ) → x ≢ y → contact_in past graph.edges x y ≡ contact_in past other.edges x y)
    → (e : GraphEdge) → Contains graph.edges e → Contains other.edges e
edges_in graph other is other_is same e inside =
    let up = is.ordered e inside in
    edge_there other other_is e up (is.touching e inside)
    (λ past. sym (same past e.a e.b (λ equal. omega arith)) ∙ edge_contact graph is past e inside)

never_both : (e f : GraphEdge) → StandsBefore e f → ¬ (StandsBefore f e)
never_both e f one other = numbers e.a e.b f.a f.b one other
  where
    numbers : (a b p q : ℕ) → (a < p) ⊎ ((a ≡ p) × (b < q)) → ¬ ((p < a) ⊎ ((p ≡ a) × (q < b)))
    numbers a b p q one other = grind arith

pub one_graph : (graph other : RegionGraph) → IsGraph graph → IsGraph other
    → ((r : Region) → Contains graph.regions r ↔ Contains other.regions r)
    → ((past x y : ℕ) → x ≢ y → contact_in past graph.edges x y ≡ contact_in past other.edges x y)
    → graph ≡ other
one_graph graph other is other_is regions contacts =
    let same_regions =
    one_order (λ (r s : Region). r.name < s.name) (λ r s less more. omega (arith, less, more)) graph.regions other.regions
    is.regions_ascend other_is.regions_ascend (λ r. (regions r).0) (λ r. (regions r).1) in
    let same_edges =
    one_order StandsBefore never_both graph.edges other.edges is.edges_ascend other_is.edges_ascend
    (edges_in graph other is other_is contacts)
    (edges_in other graph other_is is (λ past x y xy. sym (contacts past x y xy))) in
    λ i. record { regions = same_regions i; edges = same_edges i }
