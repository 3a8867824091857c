-- Edges of a graph that reach the threshold, and what they were before a merge.
use Rattle.std.proofs.Common.{◌≡◌, ◌≢◌, ◌⊎◌, inl, inr, ℕ, ◌+◌, ◌*◌, ◌<◌, ◌≤◌, refl, sym, ap, ◌∙◌, subst, eq-zero-or-pos, arith}
use Rattle.std.specs.Prelude.{map, Contains}
use Rattle.agglo_model.specs.PairOrder.{Threshold, Contact, Reaches, added}
use Rattle.agglo_model.specs.Greedy.{Merge}
use Rattle.agglo_model.specs.RegionGraph.{GraphEdge, RegionGraph, IsGraph, no_contact, contact_in}
use Rattle.agglo_model.specs.Settling.{IsGraphAfter, edge_after}
use Rattle.agglo_model.proofs.GraphEdges.{edge_contact, edge_of_contact, edge_there}
use Rattle.agglo_model.proofs.GraphFirsts.{contact_in-none}
use Rattle.agglo_model.proofs.GraphMerges.{contact_in-swap, merged-third, merged-gone, merged-others}
use Rattle.agglo_model.proofs.Cases.{name_cases, apart_cases}

-- of two contacts that together reach the threshold, one does
one_reaches : (p q a b c d : ℕ) → (p ≡ 0 → a ≡ 0) → (p ≡ 0 → c ≡ 0) → (q ≡ 0 → b ≡ 0) → (q ≡ 0 → d ≡ 0) → 0 < p + q → a + b ≤ c + d
    → ((0 < p) × (a ≤ c)) ⊎ ((0 < q) × (b ≤ d))
one_reaches p q a b c d pa pc qb qd some reaches = by_cases (eq-zero-or-pos p) (eq-zero-or-pos q) (le_cases a c)
  where
    le_cases : (m n : ℕ) → (m ≤ n) ⊎ (n < m)
    le_cases m n = grind arith

    by_cases : (p ≡ 0) ⊎ (0 < p) → (q ≡ 0) ⊎ (0 < q) → (a ≤ c) ⊎ (c < a) → ((0 < p) × (a ≤ c)) ⊎ ((0 < q) × (b ≤ d))
    by_cases (inr sp) sq (inl low) = inl (sp, low)
    by_cases (inl np) (inl nq) order = absurd (omega arith)
    by_cases (inl np) (inr sq) order = let a0 = pa np in let c0 = pc np in inr (sq, omega arith)
    by_cases (inr sp) (inr sq) (inr high) = inr (sq, omega arith)
    by_cases (inr sp) (inl nq) (inr high) = let b0 = qb nq in let d0 = qd nq in absurd (omega arith)

both_reach : (t : Threshold) (c d : Contact) → (c.count ≡ 0 → c.sum ≡ 0) → (d.count ≡ 0 → d.sum ≡ 0)
    → 0 < (added c d).count → Reaches t (added c d)
    → ((0 < c.count) × Reaches t c) ⊎ ((0 < d.count) × Reaches t d)
both_reach t c d no_c no_d some reaches =
    one_reaches c.count d.count (t.p * c.count) (t.p * d.count) (c.sum * t.q) (d.sum * t.q)
    (λ none. ap (λ n. t.p * n) none ∙ zero_right t.p) (λ none. ap (λ n. n * t.q) (no_c none) ∙ zero_left t.q)
    (λ none. ap (λ n. t.p * n) none ∙ zero_right t.p) (λ none. ap (λ n. n * t.q) (no_d none) ∙ zero_left t.q)
    some (omega (arith, reaches))
  where
    zero_right : (n : ℕ) → n * 0 ≡ 0
    zero_right n = omega arith

    zero_left : (n : ℕ) → 0 * n ≡ 0
    zero_left n = omega arith

-- an edge between these two names, in either order, that reaches the threshold
abbrev pub Joined : Threshold → RegionGraph → ℕ → ℕ → Type 0
Joined t graph x y = (e : GraphEdge) × Contains graph.edges e × (((e.a ≡ x) × (e.b ≡ y)) ⊎ ((e.a ≡ y) × (e.b ≡ x)))
    × Reaches t e.contact

pub Joined-swap : (t : Threshold) (graph : RegionGraph) (x y : ℕ) → Joined t graph x y → Joined t graph y x
Joined-swap t graph x y (e, inside, inl names, reaches) = (e, inside, inr names, reaches)
Joined-swap t graph x y (e, inside, inr names, reaches) = (e, inside, inl names, reaches)

-- where the contact of two names reaches the threshold, so does the edge between them
reaching_edge : (t : Threshold) (graph : RegionGraph) → IsGraph graph → (past x y : ℕ) → x ≢ y
    → 0 < (contact_in past graph.edges x y).count → Reaches t (contact_in past graph.edges x y) → Joined t graph x y
reaching_edge t graph is past x y xy some reaches = elim (apart_cases x y xy) [
  | inl less ↦
      let found = edge_of_contact graph is past x y less some in
      let same : contact_in past graph.edges x y ≡ added found.0.contact (no_contact past) =
      (λ i. contact_in past graph.edges (sym found.2 i) (sym found.3 i)) ∙ edge_contact graph is past found.0 found.1 in
      (found.0, found.1, inl (found.2, found.3), by_edge found.0.contact (subst (Reaches t) same reaches))
  | inr less ↦
      let turned = contact_in-swap past x y graph.edges in
      let found = edge_of_contact graph is past y x less (subst (λ c. 0 < c.count) turned some) in
      let same : contact_in past graph.edges x y ≡ added found.0.contact (no_contact past) =
      turned ∙ (λ i. contact_in past graph.edges (sym found.2 i) (sym found.3 i)) ∙ edge_contact graph is past found.0 found.1 in
      (found.0, found.1, inr (found.2, found.3), by_edge found.0.contact (subst (Reaches t) same reaches))
]
  where
    by_edge : (c : Contact) → Reaches t (added c (no_contact past)) → Reaches t c
    by_edge c reaches = omega (arith, reaches)

-- the names of an edge that reaches the threshold are in contact, and their contact reaches it
record AreJoined (t : Threshold) (graph : RegionGraph) (x y : ℕ) : Type 0 where
  apart : x ≢ y
  some : 0 < (contact_in 0 graph.edges x y).count
  reaches : Reaches t (contact_in 0 graph.edges x y)

joined_contact : (t : Threshold) (graph : RegionGraph) → IsGraph graph → (x y : ℕ) → Joined t graph x y
    → AreJoined t graph x y
joined_contact t graph is x y (e, inside, names, reaches) = record {
  apart = apart names;
  some = subst (λ c. 0 < c.count) (sym (same names)) (let touching = is.touching e inside in omega arith);
  reaches = subst (Reaches t) (sym (same names)) (omega (arith, reaches));
}
  where
    apart : ((e.a ≡ x) × (e.b ≡ y)) ⊎ ((e.a ≡ y) × (e.b ≡ x)) → x ≢ y
    apart (inl (at_x, at_y)) = let less = is.ordered e inside in λ same. omega arith
    apart (inr (at_y, at_x)) = let less = is.ordered e inside in λ same. omega arith

    same : ((e.a ≡ x) × (e.b ≡ y)) ⊎ ((e.a ≡ y) × (e.b ≡ x)) → contact_in 0 graph.edges x y ≡ added e.contact (no_contact 0)
    same (inl (at_x, at_y)) = (λ i. contact_in 0 graph.edges (sym at_x i) (sym at_y i)) ∙ edge_contact graph is 0 e inside
    same (inr (at_y, at_x)) =
        contact_in-swap 0 x y graph.edges ∙ (λ i. contact_in 0 graph.edges (sym at_y i) (sym at_x i))
        ∙ edge_contact graph is 0 e inside

-- a contact without an edge has no sum
no_sum : (graph : RegionGraph) → IsGraph graph → (past x y : ℕ) → (contact_in past graph.edges x y).count ≡ 0
    → (contact_in past graph.edges x y).sum ≡ 0
no_sum graph is past x y none = ap (λ c. c.sum) (contact_in-none graph is past x y none)

-- the name is neither of the two of a merge
abbrev pub IsNeither : Merge → ℕ → Type 0
IsNeither m x = (x ≢ m.survivor) × (x ≢ m.absorbed)

-- a region of the one name before a merge is of the other after it
abbrev pub IsOldName : Merge → ℕ → ℕ → Type 0
IsOldName m y z = (z ≡ y) ⊎ ((y ≡ m.survivor) × (z ≡ m.absorbed))

-- a merge of two regions of a graph
module _ (t : Threshold) (graph : RegionGraph) (is : IsGraph graph) (m : Merge) (after : RegionGraph)
    (apart : m.survivor ≢ m.absorbed) (after_graph : IsGraphAfter graph m after) where
  kept_contact : (past x y : ℕ) → x ≢ y → IsNeither m x → IsNeither m y
      → contact_in past after.edges x y ≡ contact_in past graph.edges x y
  kept_contact past x y xy not_x not_y =
      after_graph.contacts past x y xy ∙ merged-others past m graph.edges x y not_x.0 not_x.1 not_y.0 not_y.1

  -- an edge between two other regions stays
  pub kept_forth : (e : GraphEdge) → IsNeither m e.a → IsNeither m e.b → Contains graph.edges e → Contains after.edges e
  kept_forth e not_a not_b inside =
      let less = is.ordered e inside in
      edge_there after after_graph.graph_is e less (is.touching e inside)
      (λ past. kept_contact past e.a e.b (λ same. absurd (omega (arith, less, same))) not_a not_b ∙ edge_contact graph is past e inside)

  pub kept_back : (e : GraphEdge) → IsNeither m e.a → IsNeither m e.b → Contains after.edges e → Contains graph.edges e
  kept_back e not_a not_b inside =
      let is_after = after_graph.graph_is in
      let less = is_after.ordered e inside in
      edge_there graph is e less (is_after.touching e inside)
      (λ past. sym (kept_contact past e.a e.b (λ same. absurd (omega (arith, less, same))) not_a not_b)
      ∙ edge_contact after is_after past e inside)

  -- the contact of a third region with a name before the merge that is that name after it
  reached : (past x y : ℕ) → IsNeither m x → x ≢ y
      → (y ≡ m.survivor) ⊎ (y ≡ m.absorbed) ⊎ ((y ≢ m.survivor) × (y ≢ m.absorbed))
      → 0 < (contact_in past after.edges x y).count → Reaches t (contact_in past after.edges x y)
      → (z : ℕ) × Joined t graph x z × IsOldName m y z
  reached past x y (xs, xb) xy (inl at_s) some reaches =
      let one = contact_in past graph.edges x m.survivor in
      let other = contact_in past graph.edges x m.absorbed in
      let same : contact_in past after.edges x y ≡ added one other =
      after_graph.contacts past x y xy
      ∙ contact_in-swap past x y (map (edge_after m) graph.edges)
      ∙ (λ i. contact_in past (map (edge_after m) graph.edges) (at_s i) x)
      ∙ merged-third past m graph.edges x apart xs xb
      ∙ (λ i. added (contact_in-swap past m.survivor x graph.edges i) (contact_in-swap past m.absorbed x graph.edges i)) in
      elim (both_reach t one other (no_sum graph is past x m.survivor) (no_sum graph is past x m.absorbed)
      (subst (λ c. 0 < c.count) same some) (subst (Reaches t) same reaches)) [
        | inl (touching, here) ↦ (m.survivor, reaching_edge t graph is past x m.survivor xs touching here, inl (sym at_s))
        | inr (touching, here) ↦ (m.absorbed, reaching_edge t graph is past x m.absorbed xb touching here, inr (at_s, refl))
      ]
  reached past x y (xs, xb) xy (inr (inl at_b)) some reaches =
      let same : contact_in past after.edges x y ≡ no_contact past =
      after_graph.contacts past x y xy
      ∙ contact_in-swap past x y (map (edge_after m) graph.edges)
      ∙ (λ i. contact_in past (map (edge_after m) graph.edges) (at_b i) x)
      ∙ merged-gone past m graph.edges x apart in
      let none = ap (λ c. c.count) same in absurd (omega (arith, some, none))
  reached past x y not_x xy (inr (inr not_y)) some reaches =
      let same = kept_contact past x y xy not_x not_y in (
        y,
        reaching_edge t graph is past x y xy (subst (λ c. 0 < c.count) same some) (subst (Reaches t) same reaches),
        inl refl,
      )

  -- an edge at a third region that reaches the threshold after the merge did so before
  pub joined_before : (x y : ℕ) → IsNeither m x → Joined t after x y → (z : ℕ) × Joined t graph x z × IsOldName m y z
  joined_before x y not_x joined =
      let known = joined_contact t after after_graph.graph_is x y joined in
      reached 0 x y not_x known.apart (name_cases y m.survivor m.absorbed) known.some known.reaches
