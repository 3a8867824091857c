-- Numbers that pass the test of graphs are those of a graph.
use Rattle.std.proofs.Common.{◌≡◌, ◌⊎◌, inl, inr, ℕ, ◌<◌, ◌≤◌, Bool, true, false, ◌&&◌, ◌||◌, eqb, ltb, leb, List, [], ◌∷◌, refl, sym, subst, arith}
use Rattle.std.specs.Prelude.{Contains, AllPairs, IsTrue, map, sum_by}
use Rattle.std.specs.List.{list_all, list_any}
use Rattle.std.proofs.lemmas.Bool.{false≢true, and_parts}
use Rattle.std.proofs.lemmas.Bool.Decides.{nat_tests}
use Rattle.std.proofs.lemmas.List.Kept.{AllPairs-cons}
use Rattle.agglo_model.specs.PairOrder.{most_edges}
use Rattle.agglo_model.specs.RegionGraph.{Region, GraphEdge, IsGraph, IsWithinEdges, StandsBefore}
use Rattle.agglo_model.proofs.Members.{contains_cases, contains_head, contains_none, contains_tail, All-from_contains}
use Rattle.segment_checks.specs.Samples.{graph_test, regions_test, edges_test, edge_test, sample_region, sample_edge}

list_all-each : {X : Type 0} (p : X → Bool) (xs : List X) (x : X) → list_all p xs ≡ true → Contains xs x → p x ≡ true
list_all-each p [] x pass inside = absurd (contains_none x inside)
list_all-each p (y ∷ xs) x pass inside =
    let parts = and_parts (p y) (list_all p xs) pass in
    elim (contains_cases y x xs inside) [
      | inl same ↦ subst (λ z. p z ≡ true) same parts.0
      | inr later ↦ list_all-each p xs x parts.1 later
    ]

list_any-some : {X : Type 0} (p : X → Bool) (xs : List X) → list_any p xs ≡ true → (x : X) × Contains xs x × (p x ≡ true)
list_any-some p [] pass = absurd (false≢true pass)
list_any-some {X} p (y ∷ xs) pass = step (p y) refl (list_any-some p xs)
  where
    step : (b : Bool) → p y ≡ b → (list_any p xs ≡ true → (x : X) × Contains xs x × (p x ≡ true)) → (x : X) × Contains (y ∷ xs) x × (p x ≡ true)
    step true here rest = (y, contains_head y xs, here)
    step false here rest =
        let found = rest (subst (λ b. (b || list_any p xs) ≡ true) here pass) in
        (found.0, contains_tail y found.0 xs found.1, found.2)

regions_ascend : (rs : List Region) → regions_test rs ≡ true → AllPairs (λ r s. r.name < s.name) rs
regions_ascend [] pass = λ i j d before below. absurd (omega arith)
regions_ascend (r ∷ rs) pass =
    let parts = and_parts (list_all (λ (s : Region). ltb r.name s.name) rs) (regions_test rs) pass in
    AllPairs-cons (λ x y. x.name < y.name) r rs
    (All-from_contains (λ s. r.name < s.name) rs
    (λ s inside. less r.name s.name (list_all-each (λ (z : Region). ltb r.name z.name) rs s parts.0 inside)))
    (regions_ascend rs parts.1)
  where
    less : (a b : ℕ) → ltb a b ≡ true → a < b
    less a b pass = grind (arith, nat_tests)

edges_ascend : (es : List GraphEdge) → edges_test es ≡ true → AllPairs StandsBefore es
edges_ascend [] pass = λ i j d before below. absurd (omega arith)
edges_ascend (e ∷ es) pass =
    let p : GraphEdge → Bool = λ f. ltb e.a f.a || (eqb e.a f.a && ltb e.b f.b) in
    let parts = and_parts (list_all p es) (edges_test es) pass in
    AllPairs-cons StandsBefore e es
    (All-from_contains (StandsBefore e) es (λ f inside. stands e.a e.b f.a f.b (list_all-each p es f parts.0 inside)))
    (edges_ascend es parts.1)
  where
    stands : (a b x y : ℕ) → (ltb a x || (eqb a x && ltb b y)) ≡ true → (a < x) ⊎ ((a ≡ x) × (b < y))
    stands a b x y pass = grind (arith, nat_tests)

-- what an edge is that passes
record IsEdge (rs : List Region) (e : GraphEdge) : Type 0 where
  ordered : e.a < e.b
  touching : 0 < e.contact.count
  from_region : (faces : ℕ) × Contains rs (record { name = e.a; faces = faces })
  to_region : (faces : ℕ) × Contains rs (record { name = e.b; faces = faces })

named : (rs : List Region) (x : ℕ) → list_any (λ r. eqb r.name x) rs ≡ true
    → (faces : ℕ) × Contains rs (record { name = x; faces = faces })
named rs x pass =
    let found = list_any-some (λ (r : Region). eqb r.name x) rs pass in
    (found.0.faces, subst (λ n. Contains rs (record { name = n; faces = found.0.faces })) (same found.0.name x found.2) found.1)
  where
    same : (a b : ℕ) → eqb a b ≡ true → a ≡ b
    same a b pass = grind (arith, nat_tests)

edge_is : (rs : List Region) (e : GraphEdge) → edge_test rs e ≡ true → IsEdge rs e
edge_is rs e pass =
    let parts = and_parts (ltb e.a e.b && ltb 0 e.contact.count) _ pass in
    let numbers = and_parts (ltb e.a e.b) (ltb 0 e.contact.count) parts.0 in
    let regions = and_parts (list_any (λ (r : Region). eqb r.name e.a) rs) (list_any (λ (r : Region). eqb r.name e.b) rs) parts.1 in
    record {
      ordered = less e.a e.b numbers.0;
      touching = less 0 e.contact.count numbers.1;
      from_region = named rs e.a regions.0;
      to_region = named rs e.b regions.1;
    }
  where
    less : (a b : ℕ) → ltb a b ≡ true → a < b
    less a b pass = grind (arith, nat_tests)

-- the parts of the test
record Passes (rs : List Region) (es : List GraphEdge) : Type 0 where
  regions : regions_test rs ≡ true
  edges : edges_test es ≡ true
  each : list_all (edge_test rs) es ≡ true
  within : leb (sum_by (λ e. e.contact.count) es) most_edges ≡ true

passes : (rs : List Region) (es : List GraphEdge)
    → ((regions_test rs && edges_test es) && (list_all (edge_test rs) es && leb (sum_by (λ e. e.contact.count) es) most_edges)) ≡ true
    → Passes rs es
passes rs es pass =
    let both = and_parts (regions_test rs && edges_test es) _ pass in
    let front = and_parts (regions_test rs) (edges_test es) both.0 in
    let back = and_parts (list_all (edge_test rs) es) (leb (sum_by (λ e. e.contact.count) es) most_edges) both.1 in
    record { regions = front.0; edges = front.1; each = back.0; within = back.1 }

-- lists that come from numbers that pass
pub IsGraph-by_test : (regions : List (ℕ × ℕ)) (edges : List (ℕ × ℕ × ℕ × ℕ × ℕ)) (rs : List Region) (es : List GraphEdge)
    → rs ≡ map sample_region regions → es ≡ map sample_edge edges → IsTrue (graph_test regions edges)
    → IsGraph (record { regions = rs; edges = es }) × IsWithinEdges (record { regions = rs; edges = es })
IsGraph-by_test regions edges rs es rs_are es_are pass =
    let all = passes (map sample_region regions) (map sample_edge edges) pass in
    let r = sym rs_are in
    let e = sym es_are in
    let own : Passes rs es = subst (Passes rs) e (subst (λ x. Passes x (map sample_edge edges)) r all) in
    let edge = λ (f : GraphEdge) (inside : Contains es f). edge_is rs f (list_all-each (edge_test rs) es f own.each inside) in (
      record {
        regions_ascend = regions_ascend rs own.regions;
        edges_ascend = edges_ascend es own.edges;
        ordered = λ f inside. (edge f inside).ordered;
        touching = λ f inside. (edge f inside).touching;
        from_region = λ f inside. (edge f inside).from_region;
        to_region = λ f inside. (edge f inside).to_region;
      },
      most (sum_by (λ f. f.contact.count) es) own.within,
    )
  where
    most : (n : ℕ) → leb n most_edges ≡ true → n ≤ most_edges
    most n pass = grind (arith, nat_tests)
