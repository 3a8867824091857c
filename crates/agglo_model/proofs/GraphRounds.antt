-- Merges of reciprocal pairs that share no region, all at once: the same graph as one after another.
use Rattle.std.proofs.Common.{◌≡◌, ◌≢◌, ◌⊎◌, inl, inr, ℕ, List, [], ◌∷◌, ◌++◌, refl, sym, ap, ◌∙◌, subst, arith}
use Rattle.std.specs.Prelude.{◌↔◌, map, Contains, AllPairs}
use Rattle.std.proofs.lemmas.Bool.{cases_eq}
use Rattle.agglo_model.specs.PairOrder.{Threshold}
use Rattle.agglo_model.specs.Greedy.{Merge}
use Rattle.agglo_model.specs.RegionGraph.{Region, GraphEdge, RegionGraph, IsGraph}
use Rattle.agglo_model.specs.Settling.{IsReciprocalEdge, IsGraphAfter, HasBothFaces, SettlesInto, edge_after, edge_of}
use Rattle.agglo_model.proofs.Members.{contains_head, contains_tail, contains_cases, contains_none, all_pairs_head, all_pairs_tail}
use Rattle.agglo_model.proofs.GraphMerges.{SameContacts, SameContacts-after}
use Rattle.agglo_model.proofs.GraphAfter.{after_exists}
use Rattle.agglo_model.proofs.GraphFirsts.{IsStep, still_reciprocal}

-- merges of reciprocal pairs, one after another, lead from one graph to another
abbrev pub Leads : Threshold → ℕ → RegionGraph → List Merge → RegionGraph → Type 0
Leads t faces graph [] last = graph ≡ last
Leads t faces graph (m ∷ merges) last = IsReciprocalEdge t faces graph (edge_of m)
    × ((next : RegionGraph) × IsGraphAfter graph m next × Leads t faces next merges last)

pub Leads-append : (t : Threshold) (faces : ℕ) (graph mid last : RegionGraph) (merges others : List Merge)
    → Leads t faces graph merges mid → Leads t faces mid others last → Leads t faces graph (merges ++ others) last
Leads-append t faces graph mid last [] others same rest = subst (λ g. Leads t faces g others last) (sym same) rest
Leads-append t faces graph mid last (m ∷ merges) others (pair, (next, after, one)) rest =
    (pair, (next, after, Leads-append t faces next mid last merges others one rest))

-- where they lead to a graph without reciprocal pairs, the graph is settled
pub settled_by : (t : Threshold) (faces : ℕ) (graph last : RegionGraph) (merges : List Merge)
    → Leads t faces graph merges last → ((e : GraphEdge) → ¬ (IsReciprocalEdge t faces last e))
    → SettlesInto t faces graph merges last
settled_by t faces graph last [] same none =
    (same, subst (λ g. (e : GraphEdge) → ¬ (IsReciprocalEdge t faces g e)) (sym same) none)
settled_by t faces graph last (m ∷ merges) (pair, (next, after, rest)) none =
    (pair, (next, after, settled_by t faces next last merges rest none))

-- the two merges share no name
pub record ShareNone (m n : Merge) : Type 0 where
  pub survivors : n.survivor ≢ m.survivor
  pub survivor_absorbed : n.survivor ≢ m.absorbed
  pub absorbed_survivor : n.absorbed ≢ m.survivor
  pub absorbed : n.absorbed ≢ m.absorbed

-- edges with the names after several merges
abbrev pub edges_after : List Merge → List GraphEdge → List GraphEdge
edges_after [] es = es
edges_after (m ∷ merges) es = edges_after merges (map (edge_after m) es)

-- none of the merges has the name x
abbrev pub IsInNone : List Merge → ℕ → Type 0
IsInNone merges x = (m : Merge) → Contains merges m → (x ≢ m.survivor) × (x ≢ m.absorbed)

-- the region was there and is in no merge, or it is the survivor of one of them with the faces of both
abbrev pub IsRegionAfter : RegionGraph → List Merge → Region → Type 0
IsRegionAfter graph merges r = (Contains graph.regions r × IsInNone merges r.name)
    ⊎ ((m : Merge) × Contains merges m × (r.name ≡ m.survivor) × HasBothFaces graph m r.faces)

-- the graph after several merges that share no name
pub record IsGraphAfterAll (graph : RegionGraph) (merges : List Merge) (after : RegionGraph) : Type 0 where
  pub graph_is : IsGraph after
  pub regions : (r : Region) → Contains after.regions r ↔ IsRegionAfter graph merges r
  pub contacts : SameContacts after.edges (edges_after merges graph.edges)

-- one round: merges of reciprocal pairs of the graph that share no name, and the graph after all of them
pub record IsRound (t : Threshold) (faces : ℕ) (graph : RegionGraph) (merges : List Merge) (after : RegionGraph) : Type 0 where
  pub is : IsGraph graph
  pub reciprocal : (m : Merge) → Contains merges m → IsReciprocalEdge t faces graph (edge_of m)
  pub apart : AllPairs ShareNone merges
  pub after_all : IsGraphAfterAll graph merges after

edges_keep_contacts : (merges : List Merge) (es fs : List GraphEdge)
    → ((m : Merge) → Contains merges m → m.survivor ≢ m.absorbed)
    → SameContacts es fs → SameContacts (edges_after merges es) (edges_after merges fs)
edges_keep_contacts [] es fs apart same = same
edges_keep_contacts (m ∷ merges) es fs apart same =
    edges_keep_contacts merges (map (edge_after m) es) (map (edge_after m) fs)
    (λ n later. apart n (contains_tail m n merges later))
    (SameContacts-after m es fs (apart m (contains_head m merges)) same)

-- the names of a reciprocal pair differ
apart_of : (t : Threshold) (faces : ℕ) (graph : RegionGraph) (m : Merge) → IsGraph graph
    → IsReciprocalEdge t faces graph (edge_of m) → m.survivor ≢ m.absorbed
apart_of t faces graph m is pair = let less = is.ordered (edge_of m) pair.there in λ e. omega arith

-- one merge alone
one_merge : (graph : RegionGraph) (m : Merge) (after : RegionGraph) → IsGraphAfterAll graph (m ∷ []) after
    → IsGraphAfter graph m after
one_merge graph m after all = record {
  graph_is = all.graph_is;
  survivor = λ faces. (
    survivor_of faces,
    λ both. (all.regions (record { name = m.survivor; faces = faces })).1
        (inr (m, contains_head m [], refl, both)),
  );
  others = λ r rs. (other_of r rs, λ (inside, rb). (all.regions r).1 (inl (inside, none_of r rs rb)));
  contacts = all.contacts;
}
  where
    is_m : (n : Merge) → Contains (m ∷ []) n → m ≡ n
    is_m n inside = elim (contains_cases m n [] inside) [ inl same ↦ same | inr none ↦ absurd (contains_none n none) ]

    survivor_of : (faces : ℕ) → Contains after.regions (record { name = m.survivor; faces = faces }) → HasBothFaces graph m faces
    survivor_of faces inside = elim ((all.regions (record { name = m.survivor; faces = faces })).0 inside) [
      | inl (there, none) ↦ absurd ((none m (contains_head m [])).0 refl)
      | inr (n, at_n, name, both) ↦ subst (λ z. HasBothFaces graph z faces) (sym (is_m n at_n)) both
    ]

    other_of : (r : Region) → r.name ≢ m.survivor → Contains after.regions r → Contains graph.regions r × (r.name ≢ m.absorbed)
    other_of r rs inside = elim ((all.regions r).0 inside) [
      | inl (there, none) ↦ (there, (none m (contains_head m [])).1)
      | inr (n, at_n, name, both) ↦ absurd (rs (name ∙ ap (λ z. z.survivor) (sym (is_m n at_n))))
    ]

    none_of : (r : Region) → r.name ≢ m.survivor → r.name ≢ m.absorbed → IsInNone (m ∷ []) r.name
    none_of r rs rb n at_n =
        let same = is_m n at_n in
        (λ e. rs (e ∙ ap (λ z. z.survivor) (sym same)), λ e. rb (e ∙ ap (λ z. z.absorbed) (sym same)))

-- a region of the graph after the first merge, seen from before it
module _ (graph : RegionGraph) (m : Merge) (next : RegionGraph) (merges : List Merge) (after_m : IsGraphAfter graph m next)
    (apart : (n : Merge) → Contains merges n → ShareNone m n) where
  -- the regions of another pair are those from before
  both_forth : (n : Merge) → Contains merges n → (faces : ℕ) → HasBothFaces graph n faces → HasBothFaces next n faces
  both_forth n at_n faces both =
      let none = apart n at_n in
      record {
        own = both.own;
        taken = both.taken;
        survivor = (after_m.others (record { name = n.survivor; faces = both.own }) none.survivors).1
            (both.survivor, none.survivor_absorbed);
        absorbed = (after_m.others (record { name = n.absorbed; faces = both.taken }) none.absorbed_survivor).1
            (both.absorbed, none.absorbed);
        both = both.both;
      }

  both_back : (n : Merge) → Contains merges n → (faces : ℕ) → HasBothFaces next n faces → HasBothFaces graph n faces
  both_back n at_n faces both =
      let none = apart n at_n in
      record {
        own = both.own;
        taken = both.taken;
        survivor = ((after_m.others (record { name = n.survivor; faces = both.own }) none.survivors).0 both.survivor).0;
        absorbed = ((after_m.others (record { name = n.absorbed; faces = both.taken }) none.absorbed_survivor).0 both.absorbed).0;
        both = both.both;
      }

  region_forth : (r : Region) → IsRegionAfter graph (m ∷ merges) r → IsRegionAfter next merges r
  region_forth r (inl (inside, none)) =
      let not_m = none m (contains_head m merges) in
      inl ((after_m.others r not_m.0).1 (inside, not_m.1), λ n at_n. none n (contains_tail m n merges at_n))
  region_forth r (inr (n, at_n, name, both)) = elim (contains_cases m n merges at_n) [
    | inl same ↦
        let own : HasBothFaces graph m r.faces = subst (λ z. HasBothFaces graph z r.faces) (sym same) both in
        let at_m : r.name ≡ m.survivor = name ∙ ap (λ z. z.survivor) (sym same) in
        inl (
          subst (λ x. Contains next.regions (record { name = x; faces = r.faces })) (sym at_m) ((after_m.survivor r.faces).1 own),
          λ k at_k. (λ e. (apart k at_k).survivors (sym e ∙ at_m), λ e. (apart k at_k).absorbed_survivor (sym e ∙ at_m)),
        )
    | inr later ↦ inr (n, later, name, both_forth n later r.faces both)
  ]

  region_back : (r : Region) → IsRegionAfter next merges r → IsRegionAfter graph (m ∷ merges) r
  region_back r (inl (inside, none)) = elim (cases_eq r.name m.survivor) [
    | inl at_s ↦
        inr (
          m,
          contains_head m merges,
          at_s,
          (after_m.survivor r.faces).0
              (subst (λ x. Contains next.regions (record { name = x; faces = r.faces })) at_s inside),
        )
    | inr rs ↦
        let was = (after_m.others r rs).0 inside in
        inl (
          was.0,
          λ n at_n. elim (contains_cases m n merges at_n) [
            | inl same ↦ (λ e. rs (e ∙ ap (λ z. z.survivor) (sym same)), λ e. was.1 (e ∙ ap (λ z. z.absorbed) (sym same)))
            | inr later ↦ none n later
          ],
        )
  ]
  region_back r (inr (n, at_n, name, both)) =
      inr (n, contains_tail m n merges at_n, name, both_back n at_n r.faces both)

-- after the first merge of a round the others are a round of the graph that it left
rest_of_round : (t : Threshold) (faces : ℕ) (graph : RegionGraph) (m : Merge) (next : RegionGraph) (merges : List Merge)
    (after : RegionGraph) → IsRound t faces graph (m ∷ merges) after → IsGraphAfter graph m next
    → IsRound t faces next merges after
rest_of_round t faces graph m next merges after round after_m =
    let pair = round.reciprocal m (contains_head m merges) in
    let step : IsStep graph m next =
    record { is = round.is; apart = apart_of t faces graph m round.is pair; after_is = after_m } in
    let apart = λ (n : Merge) (at_n : Contains merges n). all_pairs_head ShareNone m n merges round.apart at_n in
    record {
      is = after_m.graph_is;
      reciprocal = λ n at_n. still_reciprocal t faces graph m next (edge_of n) step
          (record {
            a_survivor = (apart n at_n).survivors;
            a_absorbed = (apart n at_n).survivor_absorbed;
            b_survivor = (apart n at_n).absorbed_survivor;
            b_absorbed = (apart n at_n).absorbed;
          }) (round.reciprocal n (contains_tail m n merges at_n));
      apart = all_pairs_tail ShareNone m merges round.apart;
      after_all = record {
        graph_is = round.after_all.graph_is;
        regions = λ r. (
          λ inside. region_forth graph m next merges after_m apart r ((round.after_all.regions r).0 inside),
          λ was. (round.after_all.regions r).1 (region_back graph m next merges after_m apart r was),
        );
        contacts = λ past x y xy.
            round.after_all.contacts past x y xy
            ∙ sym (edges_keep_contacts merges next.edges (map (edge_after m) graph.edges)
            (λ n at_n. apart_of t faces graph n round.is (round.reciprocal n (contains_tail m n merges at_n)))
            after_m.contacts past x y xy);
      };
    }

-- the merges of a round, one after another, lead to the graph after all of them
pub round_leads : (t : Threshold) (faces : ℕ) (graph : RegionGraph) (m : Merge) (merges : List Merge) (after : RegionGraph)
    → IsRound t faces graph (m ∷ merges) after → Leads t faces graph (m ∷ merges) after
round_leads t faces graph m [] after round =
    (round.reciprocal m (contains_head m []), (after, one_merge graph m after round.after_all, refl))
round_leads t faces graph m (n ∷ merges) after round =
    let pair = round.reciprocal m (contains_head m (n ∷ merges)) in
    let found = after_exists graph m round.is pair.there in (
      pair,
      (
        found.0,
        found.1,
        round_leads t faces found.0 n merges after
            (rest_of_round t faces graph m found.0 (n ∷ merges) after round found.1),
      ),
    )
