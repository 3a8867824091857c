-- Parts of a graph that are settled one by one: their merges, one part after another, settle the graph.
use Rattle.std.proofs.Common.{◌≡◌, ◌⊎◌, inl, inr, ℕ, ◌<◌, List, [], ◌∷◌, refl, sym, subst, arith}
use Rattle.std.specs.Prelude.{Contains, AllPairs, flat_map}
use Rattle.std.specs.List.{AllZip}
use Rattle.std.specs.Int.Bits.{and_zero_r}
use Rattle.std.proofs.lemmas.List.Elements.{All-contains}
use Rattle.agglo_model.specs.PairOrder.{Threshold, Contact, Before, Reaches}
use Rattle.agglo_model.specs.Greedy.{Merge}
use Rattle.agglo_model.specs.RegionGraph.{Region, GraphEdge, RegionGraph, IsGraph, HasRegion}
use Rattle.agglo_model.specs.Settling.{IsReciprocalEdge, IsGraphAfter, IsLeft, IsLeftOf, Settles, SettlesInto, edge_of}
use Rattle.agglo_model.proofs.Means.{before-reaches, before_irrefl, before_trans}
use Rattle.agglo_model.proofs.Members.{contains_head, contains_tail, contains_cases, contains_none, all_pairs_head, all_pairs_tail}
use Rattle.agglo_model.proofs.FirstExists.{reaches_cases}
use Rattle.agglo_model.proofs.GraphAfter.{after_exists}
use Rattle.agglo_model.proofs.GraphRounds.{Leads, Leads-append, settled_by}
use Rattle.mutual_merge.specs.Parts.{IsClosed, AreApart, AreParts, SettlesFree, no_graph}
use Rattle.mutual_merge.proofs.ClosedParts.{edge_stays, reciprocal_forth, reciprocal_back, named_before, named_after, region_before, closed_after, other_stays}

-- no edge of the graph joins a reciprocal pair
abbrev HasNoPair : Threshold → RegionGraph → Type 0
HasNoPair t graph = (e : GraphEdge) → ¬ (IsReciprocalEdge t 0 graph e)

-- Of two contacts the first comes before the other, or it does not.
before_cases : (c d : Contact) → Before c d ⊎ ¬ (Before c d)
before_cases c d = grind arith

-- the edge reaches the threshold, and none of the list comes before it
record IsFirstOf (t : Threshold) (es : List GraphEdge) (e : GraphEdge) : Type 0 where
  there : Contains es e
  reaches : Reaches t e.contact
  first : (f : GraphEdge) → Contains es f → ¬ (Before f.contact e.contact)

-- the head of a list is the first, where none of the rest comes before it
head_first : (f : GraphEdge) (es : List GraphEdge) → ((g : GraphEdge) → Contains es g → ¬ (Before g.contact f.contact))
    → (g : GraphEdge) → Contains (f ∷ es) g → ¬ (Before g.contact f.contact)
head_first f es none g inside before = elim (contains_cases f g es inside) [
  | inl same ↦ before_irrefl f.contact (subst (λ z. Before z.contact f.contact) (sym same) before)
  | inr later ↦ none g later before
]

-- no edge of a list reaches the threshold, or of those that do there is a first one
abbrev MayReach : Threshold → List GraphEdge → Type 0
MayReach t es = ((e : GraphEdge) → Contains es e → ¬ (Reaches t e.contact)) ⊎ ((e : GraphEdge) × IsFirstOf t es e)

first_reaching : (t : Threshold) (es : List GraphEdge) → ((e : GraphEdge) → Contains es e → 0 < e.contact.count) → MayReach t es
first_reaching t [] touching = inl (λ e inside. absurd (contains_none e inside))
first_reaching t (f ∷ es) touching =
    by_cases (reaches_cases t f.contact) (first_reaching t es (λ e inside. touching e (contains_tail f e es inside)))
  where
    some : 0 < f.contact.count
    some = touching f (contains_head f es)

    by_cases : Reaches t f.contact ⊎ ¬ (Reaches t f.contact) → MayReach t es → MayReach t (f ∷ es)
    by_cases (inr low) (inl none) = inl (λ e inside reaches. elim (contains_cases f e es inside) [
      | inl same ↦ low (subst (λ g. Reaches t g.contact) (sym same) reaches)
      | inr later ↦ none e later reaches
    ])
    by_cases (inl high) (inl none) =
        let late = λ (g : GraphEdge) (later : Contains es g) (before : Before g.contact f.contact).
        none g later (before-reaches t g.contact f.contact some before high) in
        inr (f, record { there = contains_head f es; reaches = high; first = head_first f es late })
    by_cases high (inr (e, best)) =
        let pos = touching e (contains_tail f e es best.there) in
        elim (before_cases f.contact e.contact) [
          | inr late ↦
              inr (
                e,
                record {
                  there = contains_tail f e es best.there;
                  reaches = best.reaches;
                  first = λ g inside before. elim (contains_cases f g es inside) [
                    | inl same ↦ late (subst (λ z. Before z.contact e.contact) (sym same) before)
                    | inr later ↦ best.first g later before
                  ];
                },
              )
          | inl earlier ↦
              let late = λ (g : GraphEdge) (later : Contains es g) (before : Before g.contact f.contact).
              let some_g = touching g (contains_tail f g es later) in
              best.first g later (before_trans g.contact f.contact e.contact some_g some pos before earlier) in
              inr (
                f,
                record {
                  there = contains_head f es;
                  reaches = before-reaches t f.contact e.contact pos earlier best.reaches;
                  first = head_first f es late;
                },
              )
        ]

-- where no face is held back, a settled graph has no edge that reaches the threshold
none_reaches : (t : Threshold) (graph : RegionGraph) → IsGraph graph → HasNoPair t graph → (e : GraphEdge)
    → Contains graph.edges e → ¬ (Reaches t e.contact)
none_reaches t graph is settled e inside reaches = elim (first_reaching t graph.edges is.touching) [
  | inl none ↦ none e inside reaches
  | inr (f, best) ↦ settled f (record {
    there = best.there;
    a_free = λ r _ _. and_zero_r r.faces;
    b_free = λ r _ _. and_zero_r r.faces;
    reaches = best.reaches;
    first_of_a = λ g there _. best.first g there;
    first_of_b = λ g there _. best.first g there;
  })
]

-- so nothing is left of it
nothing_left : (t : Threshold) (graph : RegionGraph) → IsGraph graph → HasNoPair t graph → IsLeftOf t 0 graph no_graph
nothing_left t graph is settled = record {
  graph_is = record {
    regions_ascend = λ i j d before below. absurd (omega arith);
    edges_ascend = λ i j d before below. absurd (omega arith);
    ordered = λ e inside. absurd (contains_none e inside);
    touching = λ e inside. absurd (contains_none e inside);
    from_region = λ e inside. absurd (contains_none e inside);
    to_region = λ e inside. absurd (contains_none e inside);
  };
  regions = λ r. (λ inside. absurd (contains_none r inside), λ (inside, left). absurd (not_left r left));
  edges = λ e. (
    λ inside. absurd (contains_none e inside),
    λ (inside, from, to). absurd (contains_none (record { name = e.a; faces = from.0 }) from.1),
  );
}
  where
    not_left : (r : Region) → IsLeft t 0 graph r → ⊥
    not_left r (inl held) = held (and_zero_r r.faces)
    not_left r (inr (e, inside, at_r, reaches)) = none_reaches t graph is settled e inside reaches

-- One part of a graph, and others of which `Others` holds: each is closed, none of the others has a region of
-- the one, and each region of the graph is in one of them.
record IsParted (t : Threshold) (graph part : RegionGraph) (Others : RegionGraph → Type 0) : Type 0 where
  is : IsGraph graph
  closed : IsClosed t graph part
  others : (q : RegionGraph) → Others q → IsClosed t graph q
  apart : (q : RegionGraph) → Others q → AreApart part q
  cover : (r : Region) → Contains graph.regions r → HasRegion part r.name ⊎ ((q : RegionGraph) × Others q × HasRegion q r.name)

-- the same after a merge of a pair of the part
parted_after : (t : Threshold) (graph part : RegionGraph) (Others : RegionGraph → Type 0) (m : Merge) (next after : RegionGraph)
    → IsParted t graph part Others → Contains part.edges (edge_of m) → IsGraphAfter part m next → IsGraphAfter graph m after
    → IsParted t after next Others
parted_after t graph part Others m next after parted there after_part after_graph = record {
  is = after_graph.graph_is;
  closed = closed_after t graph part parted.is parted.closed m there next after after_part after_graph;
  others = λ q other.
      other_stays t graph part parted.is parted.closed m there after after_graph q (parted.others q other) (parted.apart q other);
  apart = λ q other x has.
      parted.apart q other x (named_before t graph part parted.is parted.closed m there next after after_part after_graph x has);
  cover = λ r inside.
      elim (region_before t graph part parted.is parted.closed m there next after after_part after_graph r inside) [
        | inl has ↦ inl has
        | inr was ↦ elim (parted.cover r was) [
          | inl had ↦
              inl (named_after t graph part parted.is parted.closed m there next after after_part after_graph r.name had
              (r.faces, inside))
          | inr other ↦ inr other
        ]
      ];
}

-- the merges that settle a part lead the graph to one with the settled part in its place
record LeadsOn (t : Threshold) (graph : RegionGraph) (merges : List Merge) (last : RegionGraph) (Others : RegionGraph → Type 0)
    : Type 0 where
  to : RegionGraph
  leads : Leads t 0 graph merges to
  parted : IsParted t to last Others
  settled : HasNoPair t last

part_leads : (t : Threshold) (graph part last : RegionGraph) (Others : RegionGraph → Type 0) (merges : List Merge)
    → IsParted t graph part Others → SettlesInto t 0 part merges last → LeadsOn t graph merges last Others
part_leads t graph part last Others [] parted (same, none) = record {
  to = graph;
  leads = refl;
  parted = subst (λ p. IsParted t graph p Others) same parted;
  settled = subst (HasNoPair t) same none;
}
part_leads t graph part last Others (m ∷ merges) parted (pair, (next, after_part, rest)) =
    let here = reciprocal_forth t graph part parted.is parted.closed 0 (edge_of m) pair in
    let found = after_exists graph m parted.is here.there in
    let more = part_leads t found.0 next last Others merges
    (parted_after t graph part Others m next found.0 parted pair.there after_part found.1) rest in
    record { to = more.to; leads = (here, (found.0, found.1, more.leads)); parted = more.parted; settled = more.settled }

-- Parts of a graph of which some are settled, those of which `Done` holds, and others are not yet.
record AreLeft (t : Threshold) (graph : RegionGraph) (Done : RegionGraph → Type 0) (parts : List RegionGraph) : Type 0 where
  is : IsGraph graph
  done : (q : RegionGraph) → Done q → IsClosed t graph q
  settled : (q : RegionGraph) → Done q → HasNoPair t q
  each : (q : RegionGraph) → Contains parts q → IsClosed t graph q
  apart : AllPairs AreApart parts
  apart_done : (q p : RegionGraph) → Contains parts q → Done p → AreApart q p
  cover : (r : Region) → Contains graph.regions r → (q : RegionGraph) × (Done q ⊎ Contains parts q) × HasRegion q r.name

-- where all are settled, the graph is
all_settled : (t : Threshold) (graph : RegionGraph) (Done : RegionGraph → Type 0) → AreLeft t graph Done [] → HasNoPair t graph
all_settled t graph Done left e pair = elim in_part.1 [
  | inl done ↦
      let closed = left.done in_part.0 done in
      let there = edge_stays t graph in_part.0 left.is closed e pair.there pair.reaches e.a (inl refl) in_part.2 in
      left.settled in_part.0 done e (reciprocal_back t graph in_part.0 left.is closed 0 e there pair)
  | inr inside ↦ contains_none in_part.0 inside
]
  where
    in_part : (q : RegionGraph) × (Done q ⊎ Contains [] q) × HasRegion q e.a
    in_part = let from = left.is.from_region e pair.there in left.cover (record { name = e.a; faces = from.0 }) from.1

-- the first of the parts that are not settled yet, and all others
first_parted : (t : Threshold) (graph : RegionGraph) (Done : RegionGraph → Type 0) (part : RegionGraph) (parts : List RegionGraph)
    → AreLeft t graph Done (part ∷ parts) → IsParted t graph part (λ q. Done q ⊎ Contains parts q)
first_parted t graph Done part parts left = record {
  is = left.is;
  closed = left.each part (contains_head part parts);
  others = λ q other. closed q other;
  apart = λ q other. apart q other;
  cover = λ r inside. let found = left.cover r inside in by_cases r.name found.0 found.1 found.2;
}
  where
    closed : (q : RegionGraph) → Done q ⊎ Contains parts q → IsClosed t graph q
    closed q (inl done) = left.done q done
    closed q (inr later) = left.each q (contains_tail part q parts later)

    apart : (q : RegionGraph) → Done q ⊎ Contains parts q → AreApart part q
    apart q (inl done) = left.apart_done part q (contains_head part parts) done
    apart q (inr later) = all_pairs_head AreApart part q parts left.apart later

    by_cases : (x : ℕ) (q : RegionGraph) → Done q ⊎ Contains (part ∷ parts) q → HasRegion q x
        → HasRegion part x ⊎ ((p : RegionGraph) × (Done p ⊎ Contains parts p) × HasRegion p x)
    by_cases x q (inl done) has = inr (q, inl done, has)
    by_cases x q (inr inside) has = elim (contains_cases part q parts inside) [
      | inl same ↦ inl (subst (λ p. HasRegion p x) (sym same) has)
      | inr later ↦ inr (q, inr later, has)
    ]

-- once it is settled, one more is
then_left : (t : Threshold) (graph to : RegionGraph) (Done : RegionGraph → Type 0) (part last : RegionGraph) (parts : List RegionGraph)
    → AreLeft t graph Done (part ∷ parts) → IsParted t to last (λ q. Done q ⊎ Contains parts q) → HasNoPair t last
    → AreLeft t to (λ q. Done q ⊎ (last ≡ q)) parts
then_left t graph to Done part last parts left parted settled = record {
  is = parted.is;
  done = done;
  settled = λ q. was_settled q;
  each = λ q later. parted.others q (inr later);
  apart = all_pairs_tail AreApart part parts left.apart;
  apart_done = apart_done;
  cover = λ r inside. by_cases r.name (parted.cover r inside);
}
  where
    done : (q : RegionGraph) → Done q ⊎ (last ≡ q) → IsClosed t to q
    done q (inl before) = parted.others q (inl before)
    done q (inr same) = subst (IsClosed t to) same parted.closed

    was_settled : (q : RegionGraph) → Done q ⊎ (last ≡ q) → HasNoPair t q
    was_settled q (inl before) = left.settled q before
    was_settled q (inr same) = subst (HasNoPair t) same settled

    apart_done : (q p : RegionGraph) → Contains parts q → Done p ⊎ (last ≡ p) → AreApart q p
    apart_done q p later (inl before) = left.apart_done q p (contains_tail part q parts later) before
    apart_done q p later (inr same) = subst (AreApart q) same (λ x has also. parted.apart q (inr later) x also has)

    by_cases : (x : ℕ) → HasRegion last x ⊎ ((q : RegionGraph) × (Done q ⊎ Contains parts q) × HasRegion q x)
        → (q : RegionGraph) × ((Done q ⊎ (last ≡ q)) ⊎ Contains parts q) × HasRegion q x
    by_cases x (inl has) = (last, inl (inr refl), has)
    by_cases x (inr (q, inl before, has)) = (q, inl (inl before), has)
    by_cases x (inr (q, inr later, has)) = (q, inr later, has)

-- the merges lead to a settled graph
record LeadsToEnd (t : Threshold) (graph : RegionGraph) (merges : List Merge) : Type 0 where
  to : RegionGraph
  is : IsGraph to
  leads : Leads t 0 graph merges to
  settled : HasNoPair t to

lists_lead : {A : Type 0} (merges_of : A → List Merge) (t : Threshold) (graph : RegionGraph) (Done : RegionGraph → Type 0)
    (parts : List RegionGraph) (lists : List A) → AreLeft t graph Done parts
    → AllZip (λ part list. SettlesFree t part (merges_of list)) parts lists → LeadsToEnd t graph (flat_map merges_of lists)
lists_lead merges_of t graph Done [] [] left each =
    record { to = graph; is = left.is; leads = refl; settled = all_settled t graph Done left }
lists_lead merges_of t graph Done [] (list ∷ lists) left each = absurd each
lists_lead merges_of t graph Done (part ∷ parts) [] left each = absurd each
lists_lead merges_of t graph Done (part ∷ parts) (list ∷ lists) left ((_, settles), each) =
    let one = part_leads t graph part settles.last (λ q. Done q ⊎ Contains parts q) (merges_of list)
    (first_parted t graph Done part parts left) settles.settled in
    let rest = lists_lead merges_of t one.to (λ q. Done q ⊎ (settles.last ≡ q)) parts lists
    (then_left t graph one.to Done part settles.last parts left one.parted one.settled) each in
    record {
      to = rest.to;
      is = rest.is;
      leads = Leads-append t 0 graph one.to rest.to (merges_of list) (flat_map merges_of lists) one.leads rest.leads;
      settled = rest.settled;
    }

pub parts_settle : {A : Type 0} (merges_of : A → List Merge) (t : Threshold) (graph : RegionGraph) (parts : List RegionGraph)
    (lists : List A) → IsGraph graph → AreParts t graph parts
    → AllZip (λ part list. SettlesFree t part (merges_of list)) parts lists
    → Settles t 0 graph (flat_map merges_of lists) no_graph
parts_settle merges_of t graph parts lists is are each =
    let end = lists_lead merges_of t graph (λ _. ⊥) parts lists (record {
      is = is;
      done = λ q never. absurd never;
      settled = λ q never. absurd never;
      each = λ q inside. All-contains (IsClosed t graph) parts q are.each inside;
      apart = are.apart;
      apart_done = λ q p inside never. absurd never;
      cover = λ r inside. let found = are.cover r inside in (found.0, inr found.1, found.2);
    }) each in
    record {
      last = end.to;
      settled = settled_by t 0 graph end.to (flat_map merges_of lists) end.leads end.settled;
      left_is = nothing_left t end.to end.is end.settled;
    }
