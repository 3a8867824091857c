-- A graph without regions that no merge can take: the merges that settle it settle the whole graph.
use Rattle.std.proofs.Common.{inl, inr, ℕ, List, [], ◌∷◌, ◌++◌, append_assoc, refl, sym, subst, arith}
use Rattle.std.specs.Prelude.{◌↔◌, Contains}
use Rattle.std.proofs.lemmas.List.{append-nil}
use Rattle.agglo_model.specs.PairOrder.{Threshold, Reaches}
use Rattle.agglo_model.specs.Greedy.{Merge}
use Rattle.agglo_model.specs.RegionGraph.{Region, GraphEdge, RegionGraph, IsGraph, HasRegion}
use Rattle.agglo_model.specs.Settling.{IsReciprocalEdge, IsGraphAfter, IsLeft, IsLeftOf, Settles, SettlesInto, edge_of}
use Rattle.agglo_model.proofs.GraphAfter.{after_exists, region_over}
use Rattle.agglo_model.proofs.GraphRounds.{Leads}
use Rattle.mutual_merge.specs.Rounds.{Carries}
use Rattle.mutual_merge.specs.Parts.{IsClosed}
use Rattle.mutual_merge.proofs.ReachingEdges.{Joined, IsNeither, joined_before}
use Rattle.mutual_merge.proofs.ClosedParts.{reciprocal_forth, reciprocal_back, both_back, closed_after}

-- The part of a graph that has all regions which a merge may still take, and the edges among its regions.
pub record IsTrimmed (t : Threshold) (faces : ℕ) (graph part : RegionGraph) : Type 0 where
  pub graph_is : IsGraph part
  pub regions : (r : Region) → Contains part.regions r → Contains graph.regions r
  pub stay : (r : Region) → Contains graph.regions r → IsLeft t faces graph r → Contains part.regions r
  pub edges : (e : GraphEdge) → Contains part.edges e
      ↔ (Contains graph.edges e × HasRegion part e.a × HasRegion part e.b)

pub IsTrimmed-left : (t : Threshold) (faces : ℕ) (graph part : RegionGraph) → IsLeftOf t faces graph part
    → IsTrimmed t faces graph part
IsTrimmed-left t faces graph part left = record {
  graph_is = left.graph_is;
  regions = λ r inside. ((left.regions r).0 inside).0;
  stay = λ r inside is_left. (left.regions r).1 (inside, is_left);
  edges = left.edges;
}

module _ (t : Threshold) (faces : ℕ) (graph part : RegionGraph) (is : IsGraph graph) (trim : IsTrimmed t faces graph part) where
  from_there : (e : GraphEdge) → Contains graph.edges e → Reaches t e.contact → HasRegion part e.a
  from_there e inside reaches =
      let from = is.from_region e inside in
      (from.0, trim.stay (record { name = e.a; faces = from.0 }) from.1 (inr (e, inside, inl refl, reaches)))

  to_there : (e : GraphEdge) → Contains graph.edges e → Reaches t e.contact → HasRegion part e.b
  to_there e inside reaches =
      let to = is.to_region e inside in
      (to.0, trim.stay (record { name = e.b; faces = to.0 }) to.1 (inr (e, inside, inr refl, reaches)))

  -- an edge that reaches the threshold is in the part
  edge_in : (e : GraphEdge) → Contains graph.edges e → Reaches t e.contact → Contains part.edges e
  edge_in e inside reaches = (trim.edges e).1 (inside, from_there e inside reaches, to_there e inside reaches)

  closed : IsClosed t graph part
  closed = record {
    graph_is = trim.graph_is;
    regions = trim.regions;
    edges = trim.edges;
    closed = λ e inside reaches. (λ _. to_there e inside reaches, λ _. from_there e inside reaches);
  }

  left_forth : (r : Region) → IsLeft t faces part r → IsLeft t faces graph r
  left_forth r (inl held) = inl held
  left_forth r (inr (e, inside, at_r, reaches)) = inr (e, ((trim.edges e).0 inside).0, at_r, reaches)

  left_back : (r : Region) → IsLeft t faces graph r → IsLeft t faces part r
  left_back r (inl held) = inl held
  left_back r (inr (e, inside, at_r, reaches)) = inr (e, edge_in e inside reaches, at_r, reaches)

  -- what is left of the part is left of the graph
  left_of_part : (left : RegionGraph) → IsLeftOf t faces part left → IsLeftOf t faces graph left
  left_of_part left is_left = record {
    graph_is = is_left.graph_is;
    regions = λ r. (
      λ inside.
          let was = (is_left.regions r).0 inside in
          (trim.regions r was.0, left_forth r was.1),
      λ (inside, here). (is_left.regions r).1 (trim.stay r inside here, left_back r here),
    );
    edges = λ e. (
      λ inside.
          let was = (is_left.edges e).0 inside in
          (((trim.edges e).0 was.0).0, was.1, was.2),
      λ (inside, from, to). (is_left.edges e).1 ((trim.edges e).1 (inside, in_part e.a from, in_part e.b to), from, to),
    );
  }
    where
      in_part : (x : ℕ) → HasRegion left x → HasRegion part x
      in_part x (f, inside) = (f, ((is_left.regions (record { name = x; faces = f })).0 inside).0)

  -- a merge of a pair of the part, in both
  module _ (m : Merge) (next after : RegionGraph) (there : Contains part.edges (edge_of m))
      (after_part : IsGraphAfter part m next) (after_graph : IsGraphAfter graph m after) where
    by_other : (r : Region) (y : ℕ) → IsNeither m r.name → Joined t after r.name y → IsLeft t faces graph r
    by_other r y not_r joined =
        let less = trim.graph_is.ordered (edge_of m) there in
        let before = joined_before t graph is m after (λ e. omega (arith, less, e)) after_graph r.name y not_r joined in
        at_end before.1
      where
        at_end : {z : ℕ} → Joined t graph r.name z → IsLeft t faces graph r
        at_end (e, inside, inl (at_a, _), reaches) = inr (e, inside, inl at_a, reaches)
        at_end (e, inside, inr (_, at_b), reaches) = inr (e, inside, inr at_b, reaches)

    left_before : (r : Region) → IsNeither m r.name → IsLeft t faces after r → IsLeft t faces graph r
    left_before r not_r (inl held) = inl held
    left_before r not_r (inr (e, inside, inl at_a, reaches)) =
        by_other r e.b not_r (e, inside, inl (at_a, refl), reaches)
    left_before r not_r (inr (e, inside, inr at_b, reaches)) =
        by_other r e.a not_r (e, inside, inr (refl, at_b), reaches)

    trimmed_after : IsTrimmed t faces after next
    trimmed_after =
        let also = closed_after t graph part is closed m there next after after_part after_graph in
        record {
          graph_is = also.graph_is;
          regions = also.regions;
          stay = λ r inside left.
              region_over m graph part after next after_graph after_part (both_back t graph part is closed m there) r
              (λ rs rb was. trim.stay r was (left_before r (rs, rb) left)) inside;
          edges = also.edges;
        }

-- the merges that settle the part settle the graph, and the same is left of both
pub trimmed_settles : (t : Threshold) (faces : ℕ) (graph part : RegionGraph) (merges : List Merge) (last left : RegionGraph)
    → IsGraph graph → IsTrimmed t faces graph part → SettlesInto t faces part merges last → IsLeftOf t faces last left
    → Settles t faces graph merges left
trimmed_settles t faces graph part [] last left is trim (same, none) is_left = record {
  last = graph;
  settled = (
    refl,
    λ e pair.
        let there = edge_in t faces graph part is trim e pair.there pair.reaches in
        none e (reciprocal_back t graph part is (closed t faces graph part is trim) faces e there pair),
  );
  left_is = left_of_part t faces graph part is trim left (subst (λ g. IsLeftOf t faces g left) (sym same) is_left);
}
trimmed_settles t faces graph part (m ∷ merges) last left is trim (pair, (next, after_part, rest)) is_left =
    let here = reciprocal_forth t graph part is (closed t faces graph part is trim) faces (edge_of m) pair in
    let found = after_exists graph m is here.there in
    let more = trimmed_settles t faces found.0 next merges last left found.1.graph_is
    (trimmed_after t faces graph part is trim m next found.0 pair.there after_part found.1) rest is_left in
    record { last = more.last; settled = (here, (found.0, found.1, more.settled)); left_is = more.left_is }

pub carries_trimmed : (t : Threshold) (faces : ℕ) (start graph part : RegionGraph) (merges : List Merge) → IsGraph graph
    → IsLeftOf t faces graph part → Carries t faces start merges graph → Carries t faces start merges part
carries_trimmed t faces start graph part merges is is_left carries more left settles =
    carries more left (trimmed_settles t faces graph part more settles.last left is (IsTrimmed-left t faces graph part is_left)
    settles.settled settles.left_is)

pub leads_settles : (t : Threshold) (faces : ℕ) (graph next : RegionGraph) (merges more : List Merge) (left : RegionGraph)
    → Leads t faces graph merges next → Settles t faces next more left → Settles t faces graph (merges ++ more) left
leads_settles t faces graph next [] more left same settles = subst (λ g. Settles t faces g more left) (sym same) settles
leads_settles t faces graph next (m ∷ merges) more left (pair, (mid, after, rest)) settles =
    let later = leads_settles t faces mid next merges more left rest settles in
    record { last = later.last; settled = (pair, (mid, after, later.settled)); left_is = later.left_is }

pub carries_round : (t : Threshold) (faces : ℕ) (start graph next : RegionGraph) (merges pairs : List Merge)
    → Leads t faces graph pairs next → Carries t faces start merges graph → Carries t faces start (merges ++ pairs) next
carries_round t faces start graph next merges pairs leads carries more left settles =
    subst (λ ms. Settles t faces start ms left) (sym (append_assoc merges pairs more))
    (carries (pairs ++ more) left (leads_settles t faces graph next pairs more left leads settles))

-- where no pair is reciprocal any more, what is left of the last graph is left of the first
pub carries_end : (t : Threshold) (faces : ℕ) (start graph left : RegionGraph) (merges : List Merge)
    → Carries t faces start merges graph → ((e : GraphEdge) → ¬ (IsReciprocalEdge t faces graph e))
    → IsLeftOf t faces graph left → Settles t faces start merges left
carries_end t faces start graph left merges carries none is_left =
    subst (λ ms. Settles t faces start ms left) (append-nil merges)
    (carries [] left (record { last = graph; settled = (refl, none); left_is = is_left }))
