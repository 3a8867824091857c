-- There is a graph after each merge of two regions in contact.
use Rattle.std.proofs.Common.{◌≡◌, ◌≢◌, ◌⊎◌, inl, inr, ℕ, ◌<◌, min, max, Bool, true, false, cond, eqb, List, refl, sym, ap, ◌∙◌, subst, arith}
use Rattle.std.specs.Prelude.{map, Contains, bit_or}
use Rattle.std.proofs.lemmas.Bool.{eqb-true, eqb-false, cases_eq}
use Rattle.agglo_model.specs.Greedy.{Merge}
use Rattle.agglo_model.specs.RegionGraph.{Region, GraphEdge, RegionGraph, IsGraph}
use Rattle.agglo_model.specs.Settling.{edge_after, edge_of, name_after, HasBothFaces, IsGraphAfter}
use Rattle.agglo_model.proofs.Members.{Contains-unmap}
use Rattle.agglo_model.proofs.EdgeLists.{listed, listed-names, listed-ascends, listed-contacts}
use Rattle.agglo_model.proofs.RegionLists.{one_region, taken_over, taken_over-was, taken_over-others, taken_over-survivor, taken_over-ascends}

-- a list has a region of this name
abbrev Has : List Region → ℕ → Type 0
Has rs x = (faces : ℕ) × Contains rs (record { name = x; faces = faces })

-- what is known of a merge whose graph is sought
record Joins (graph : RegionGraph) (m : Merge) : Type 0 where
  is : IsGraph graph
  ordered : m.survivor < m.absorbed
  own : ℕ
  taken : ℕ
  survivor : Contains graph.regions (record { name = m.survivor; faces = own })
  absorbed : Contains graph.regions (record { name = m.absorbed; faces = taken })

joins_of : (graph : RegionGraph) (m : Merge) → IsGraph graph → Contains graph.edges (edge_of m) → Joins graph m
joins_of graph m is inside =
    let from = is.from_region (edge_of m) inside in
    let to = is.to_region (edge_of m) inside in
    record {
      is = is;
      ordered = is.ordered (edge_of m) inside;
      own = from.0;
      taken = to.0;
      survivor = from.1;
      absorbed = to.1;
    }

-- the graph after the merge
abbrev next : (graph : RegionGraph) (m : Merge) → Joins graph m → RegionGraph
next graph m known = record {
  regions = taken_over m.survivor m.absorbed (bit_or known.own known.taken) graph.regions;
  edges = listed (map (edge_after m) graph.edges);
}

apart : (graph : RegionGraph) (m : Merge) → Joins graph m → m.survivor ≢ m.absorbed
apart graph m known = let less = known.ordered in omega arith

has_survivor : (graph : RegionGraph) (m : Merge) (known : Joins graph m)
    → Contains (next graph m known).regions (record { name = m.survivor; faces = bit_or known.own known.taken })
has_survivor graph m known =
    taken_over-survivor m.survivor m.absorbed (bit_or known.own known.taken) graph.regions
    (record { name = m.survivor; faces = known.own }) known.survivor refl (apart graph m known)

-- the new name of a region is that of a region
has_name : (graph : RegionGraph) (m : Merge) (known : Joins graph m) (x : ℕ) → Has graph.regions x
    → Has (next graph m known).regions (name_after m x)
has_name graph m known x (faces, inside) =
    step (eqb x m.absorbed) (eqb x m.survivor) (eqb-false x m.absorbed) (eqb-true x m.survivor) (eqb-false x m.survivor)
  where
    step : (t u : Bool) → (t ≡ false → x ≢ m.absorbed) → (u ≡ true → x ≡ m.survivor) → (u ≡ false → x ≢ m.survivor)
        → Has (next graph m known).regions (cond t m.survivor x)
    step true u not_b at_s not_s = (bit_or known.own known.taken, has_survivor graph m known)
    step false true not_b at_s not_s =
        subst (Has (next graph m known).regions) (sym (at_s refl)) (bit_or known.own known.taken, has_survivor graph m known)
    step false false not_b at_s not_s = (
      faces,
      taken_over-others m.survivor m.absorbed (bit_or known.own known.taken) graph.regions
          (record { name = x; faces = faces }) inside (not_b refl) (not_s refl),
    )

min_max : (Q : ℕ → Type 0) (a b : ℕ) → Q a → Q b → Q (min a b) × Q (max a b)
min_max Q a b at_a at_b = elim (cases a b) [
  | inl (low, high) ↦ (subst Q (sym low) at_a, subst Q (sym high) at_b)
  | inr (low, high) ↦ (subst Q (sym low) at_b, subst Q (sym high) at_a)
]
  where
    cases : (a b : ℕ) → ((min a b ≡ a) × (max a b ≡ b)) ⊎ ((min a b ≡ b) × (max a b ≡ a))
    cases a b = grind arith

-- what the names of an edge of the new graph are
abbrev AreEnds : (graph : RegionGraph) (m : Merge) → Joins graph m → ℕ → ℕ → Type 0
AreEnds graph m known a b =
    (a < b) × Has (next graph m known).regions a × Has (next graph m known).regions b

ends : (graph : RegionGraph) (m : Merge) (known : Joins graph m) (e : GraphEdge)
    → Contains (map (edge_after m) graph.edges) e
    → (e.a ≢ e.b → AreEnds graph m known (min e.a e.b) (max e.a e.b)) × (0 < e.contact.count)
ends graph m known e inside =
    let found = Contains-unmap (edge_after m) graph.edges e inside in
    let f = found.0 in
    let from = has_name graph m known f.a (known.is.from_region f found.1) in
    let to = has_name graph m known f.b (known.is.to_region f found.1) in
    let from' = subst (λ z. Has (next graph m known).regions z.a) found.2 from in
    let to' = subst (λ z. Has (next graph m known).regions z.b) found.2 to in
    let both = min_max (Has (next graph m known).regions) e.a e.b from' to' in
    (λ ab. (less e.a e.b ab, both.0, both.1), subst (λ z. 0 < z.contact.count) found.2 (known.is.touching f found.1))
  where
    less : (a b : ℕ) → a ≢ b → min a b < max a b
    less a b ab = grind arith

next_is_graph : (graph : RegionGraph) (m : Merge) (known : Joins graph m) → IsGraph (next graph m known)
next_is_graph graph m known =
    let edges = map (edge_after m) graph.edges in
    let have = listed-names (AreEnds graph m known) edges (ends graph m known) in
    record {
      regions_ascend = taken_over-ascends m.survivor m.absorbed (bit_or known.own known.taken) graph.regions
          (apart graph m known) known.is.regions_ascend;
      edges_ascend = listed-ascends edges (λ e inside. (ends graph m known e inside).1);
      ordered = λ e inside. (have e inside).0.0;
      touching = λ e inside. (have e inside).1;
      from_region = λ e inside. (have e inside).0.1;
      to_region = λ e inside. (have e inside).0.2;
    }

-- the faces of the survivor
survivor_faces : (graph : RegionGraph) (m : Merge) (known : Joins graph m) (faces : ℕ)
    → Contains (next graph m known).regions (record { name = m.survivor; faces = faces }) → HasBothFaces graph m faces
survivor_faces graph m known faces inside =
    let both = bit_or known.own known.taken in
    let same = one_region (next graph m known).regions (record { name = m.survivor; faces = faces })
    (record { name = m.survivor; faces = both }) (next_is_graph graph m known).regions_ascend inside
    (has_survivor graph m known) refl in
    record {
      own = known.own;
      taken = known.taken;
      survivor = known.survivor;
      absorbed = known.absorbed;
      both = ap (λ r. r.faces) same;
    }

faces_there : (graph : RegionGraph) (m : Merge) (known : Joins graph m) (faces : ℕ) → HasBothFaces graph m faces
    → Contains (next graph m known).regions (record { name = m.survivor; faces = faces })
faces_there graph m known faces both =
    let own = one_region graph.regions (record { name = m.survivor; faces = known.own })
    (record { name = m.survivor; faces = both.own }) known.is.regions_ascend known.survivor both.survivor refl in
    let taken = one_region graph.regions (record { name = m.absorbed; faces = known.taken })
    (record { name = m.absorbed; faces = both.taken }) known.is.regions_ascend known.absorbed both.absorbed refl in
    let same : bit_or known.own known.taken ≡ faces =
    (λ i. bit_or (own i).faces (taken i).faces) ∙ sym both.both in
    subst (λ n. Contains (next graph m known).regions (record { name = m.survivor; faces = n })) same
    (has_survivor graph m known)

others_there : (graph : RegionGraph) (m : Merge) (known : Joins graph m) (r : Region) → r.name ≢ m.survivor
    → Contains (next graph m known).regions r → Contains graph.regions r × (r.name ≢ m.absorbed)
others_there graph m known r rs inside =
    let was = taken_over-was m.survivor m.absorbed (bit_or known.own known.taken) graph.regions r (apart graph m known) inside in
    elim was.1 [
      | inl (at_s, faces) ↦ absurd (rs at_s)
      | inr (rs', at_r) ↦ (at_r, was.0)
    ]

pub after_exists : (graph : RegionGraph) (m : Merge) → IsGraph graph → Contains graph.edges (edge_of m)
    → (after : RegionGraph) × IsGraphAfter graph m after
after_exists graph m is inside =
    let known = joins_of graph m is inside in (
      next graph m known,
      record {
        graph_is = next_is_graph graph m known;
        survivor = λ faces. (survivor_faces graph m known faces, faces_there graph m known faces);
        others = λ r rs. (
          others_there graph m known r rs,
          λ here. taken_over-others m.survivor m.absorbed (bit_or known.own known.taken) graph.regions r here.0 here.1 rs,
        );
        contacts = λ past x y xy. listed-contacts (map (edge_after m) graph.edges) past x y xy;
      },
    )

-- what a graph has after a merge another has after it, where the other had before it what the merge took up
pub region_over : (m : Merge) (one other one_after other_after : RegionGraph) → IsGraphAfter one m one_after
    → IsGraphAfter other m other_after → ((f : ℕ) → HasBothFaces one m f → HasBothFaces other m f) → (r : Region)
    → (r.name ≢ m.survivor → r.name ≢ m.absorbed → Contains one.regions r → Contains other.regions r)
    → Contains one_after.regions r → Contains other_after.regions r
region_over m one other one_after other_after is also both r rest inside = elim (cases_eq r.name m.survivor) [
  | inl at_s ↦
      subst (λ x. Contains other_after.regions (record { name = x; faces = r.faces })) (sym at_s)
      ((also.survivor r.faces).1 (both r.faces ((is.survivor r.faces).0
      (subst (λ x. Contains one_after.regions (record { name = x; faces = r.faces })) at_s inside))))
  | inr rs ↦
      let was = (is.others r rs).0 inside in
      (also.others r rs).1 (rest rs was.1 was.0, was.1)
]
