-- Some regions of a graph that no edge which reaches the threshold leaves: a merge of two of them is one of the graph, and leaves such regions.
use Rattle.std.proofs.Common.{◌≡◌, ◌≢◌, ◌⊎◌, inl, inr, ℕ, ◌<◌, refl, sym, ◌∙◌, subst, arith}
use Rattle.std.specs.Prelude.{map, Contains, bit_or}
use Rattle.std.proofs.lemmas.Bool.{cases_eq}
use Rattle.agglo_model.specs.PairOrder.{Threshold, Before, Reaches, added}
use Rattle.agglo_model.specs.Greedy.{Merge}
use Rattle.agglo_model.specs.RegionGraph.{Region, GraphEdge, RegionGraph, IsGraph, HasRegion, contact_in}
use Rattle.agglo_model.specs.Settling.{IsAt, IsFreeIn, IsReciprocalEdge, IsGraphAfter, HasBothFaces, edge_after, edge_of}
use Rattle.agglo_model.proofs.Means.{before-reaches}
use Rattle.agglo_model.proofs.RegionLists.{one_region}
use Rattle.agglo_model.proofs.GraphAfter.{region_over}
use Rattle.agglo_model.proofs.GraphEdges.{edge_contact, edge_there}
use Rattle.agglo_model.proofs.GraphMerges.{contact_in-swap, merged-third, merged-others}
use Rattle.agglo_model.proofs.Cases.{apart_cases}
use Rattle.mutual_merge.specs.Parts.{IsClosed, AreApart}
use Rattle.mutual_merge.proofs.SameContacts.{same_contact}
use Rattle.mutual_merge.proofs.ReachingEdges.{Joined, Joined-swap, IsNeither, IsOldName, kept_forth, kept_back, joined_before}

-- what such an edge joins to a region of the part is one of the part
joined_in : (t : Threshold) (graph part : RegionGraph) → IsClosed t graph part → (x y : ℕ) → HasRegion part x
    → Joined t graph x y → HasRegion part y
joined_in t graph part closed x y has (e, inside, inl (at_x, at_y), reaches) =
    subst (HasRegion part) at_y ((closed.closed e inside reaches).0 (subst (HasRegion part) (sym at_x) has))
joined_in t graph part closed x y has (e, inside, inr (at_y, at_x), reaches) =
    subst (HasRegion part) at_y ((closed.closed e inside reaches).1 (subst (HasRegion part) (sym at_x) has))

module _ (t : Threshold) (graph part : RegionGraph) (is : IsGraph graph) (closed : IsClosed t graph part) where
  -- a region of the graph with the name of one of the part is that
  region_there : (r : Region) → Contains graph.regions r → HasRegion part r.name → Contains part.regions r
  region_there r inside (f, has) =
      let s : Region = record { name = r.name; faces = f } in
      subst (Contains part.regions) (one_region graph.regions s r is.regions_ascend (closed.regions s has) inside refl) has

  -- an edge that reaches the threshold at a region of the part is in the part
  pub edge_stays : (e : GraphEdge) → Contains graph.edges e → Reaches t e.contact → (x : ℕ) → IsAt x e → HasRegion part x
      → Contains part.edges e
  edge_stays e inside reaches x (inl at_a) has =
      let from = subst (HasRegion part) (sym at_a) has in
      (closed.edges e).1 (inside, from, (closed.closed e inside reaches).0 from)
  edge_stays e inside reaches x (inr at_b) has =
      let to = subst (HasRegion part) (sym at_b) has in
      (closed.edges e).1 (inside, (closed.closed e inside reaches).1 to, to)

  free_there : (faces x : ℕ) → HasRegion part x → IsFreeIn part faces x → IsFreeIn graph faces x
  free_there faces x has free r inside name =
      free r (region_there r inside (subst (HasRegion part) (sym name) has)) name

  first_there : (e : GraphEdge) → Contains graph.edges e → Reaches t e.contact → (x : ℕ) → HasRegion part x
      → ((f : GraphEdge) → Contains part.edges f → IsAt x f → ¬ (Before f.contact e.contact))
      → (f : GraphEdge) → Contains graph.edges f → IsAt x f → ¬ (Before f.contact e.contact)
  first_there e inside reaches x has first f at_f at_x before =
      let also = before-reaches t f.contact e.contact (is.touching e inside) before reaches in
      first f (edge_stays f at_f also x at_x has) at_x before

  pub reciprocal_forth : (faces : ℕ) (e : GraphEdge) → IsReciprocalEdge t faces part e → IsReciprocalEdge t faces graph e
  reciprocal_forth faces e pair =
      let inside = (closed.edges e).0 pair.there in
      record {
        there = inside.0;
        a_free = free_there faces e.a inside.1 pair.a_free;
        b_free = free_there faces e.b inside.2 pair.b_free;
        reaches = pair.reaches;
        first_of_a = first_there e inside.0 pair.reaches e.a inside.1 pair.first_of_a;
        first_of_b = first_there e inside.0 pair.reaches e.b inside.2 pair.first_of_b;
      }

  pub reciprocal_back : (faces : ℕ) (e : GraphEdge) → Contains part.edges e → IsReciprocalEdge t faces graph e
      → IsReciprocalEdge t faces part e
  reciprocal_back faces e there pair = record {
    there = there;
    a_free = λ r inside name. pair.a_free r (closed.regions r inside) name;
    b_free = λ r inside name. pair.b_free r (closed.regions r inside) name;
    reaches = pair.reaches;
    first_of_a = λ f inside at_f. pair.first_of_a f ((closed.edges f).0 inside).0 at_f;
    first_of_b = λ f inside at_f. pair.first_of_b f ((closed.edges f).0 inside).0 at_f;
  }

  -- two regions of the part are in contact as in the graph
  same_there : (past x y : ℕ) → x < y → HasRegion part x → HasRegion part y
      → contact_in past part.edges x y ≡ contact_in past graph.edges x y
  same_there past x y xy has_x has_y =
      same_contact past part graph closed.graph_is is x y xy
      (λ e at_a at_b. (
        λ inside. ((closed.edges e).0 inside).0,
        λ inside. (closed.edges e).1 (inside, subst (HasRegion part) (sym at_a) has_x, subst (HasRegion part) (sym at_b) has_y),
      ))

  same_between : (past x y : ℕ) → x ≢ y → HasRegion part x → HasRegion part y
      → contact_in past part.edges x y ≡ contact_in past graph.edges x y
  same_between past x y xy has_x has_y = elim (apart_cases x y xy) [
    | inl less ↦ same_there past x y less has_x has_y
    | inr less ↦
        contact_in-swap past x y part.edges ∙ same_there past y x less has_y has_x ∙ contact_in-swap past y x graph.edges
  ]

  -- a merge of a pair of the part
  module _ (m : Merge) (there : Contains part.edges (edge_of m)) where
    m_there : Contains graph.edges (edge_of m)
    m_there = ((closed.edges (edge_of m)).0 there).0

    apart : m.survivor ≢ m.absorbed
    apart = let less = is.ordered (edge_of m) m_there in λ e. omega arith

    survivor_in : HasRegion part m.survivor
    survivor_in = closed.graph_is.from_region (edge_of m) there

    absorbed_in : HasRegion part m.absorbed
    absorbed_in = closed.graph_is.to_region (edge_of m) there

    both_forth : (f : ℕ) → HasBothFaces part m f → HasBothFaces graph m f
    both_forth f both = record {
      own = both.own;
      taken = both.taken;
      survivor = closed.regions (record { name = m.survivor; faces = both.own }) both.survivor;
      absorbed = closed.regions (record { name = m.absorbed; faces = both.taken }) both.absorbed;
      both = both.both;
    }

    pub both_back : (f : ℕ) → HasBothFaces graph m f → HasBothFaces part m f
    both_back f both = record {
      own = both.own;
      taken = both.taken;
      survivor = region_there (record { name = m.survivor; faces = both.own }) both.survivor survivor_in;
      absorbed = region_there (record { name = m.absorbed; faces = both.taken }) both.absorbed absorbed_in;
      both = both.both;
    }

    -- the part after the merge, and the graph
    module _ (next after : RegionGraph) (after_part : IsGraphAfter part m next) (after_graph : IsGraphAfter graph m after) where
      regions_after : (r : Region) → Contains next.regions r → Contains after.regions r
      regions_after r = region_over m part graph next after after_part after_graph both_forth r (λ _ _. closed.regions r)

      -- a region after the merge is the survivor, or was in the part
      kind : (x : ℕ) → HasRegion next x → (x ≡ m.survivor) ⊎ (IsNeither m x × HasRegion part x)
      kind x (f, inside) = elim (cases_eq x m.survivor) [
        | inl at_s ↦ inl at_s
        | inr xs ↦
            let was = (after_part.others (record { name = x; faces = f }) xs).0 inside in
            inr ((xs, was.1), (f, was.0))
      ]

      was_in : (x : ℕ) → (x ≡ m.survivor) ⊎ (IsNeither m x × HasRegion part x) → HasRegion part x
      was_in x (inl at_s) = subst (HasRegion part) (sym at_s) survivor_in
      was_in x (inr (not_x, has)) = has

      -- the part has no new name
      pub named_before : (x : ℕ) → HasRegion next x → HasRegion part x
      named_before x has = was_in x (kind x has)

      survivor_after : HasRegion next m.survivor
      survivor_after =
          let both = bit_or survivor_in.0 absorbed_in.0 in (
            both,
            (after_part.survivor both).1 (record {
              own = survivor_in.0;
              taken = absorbed_in.0;
              survivor = survivor_in.1;
              absorbed = absorbed_in.1;
              both = refl;
            }),
          )

      -- a name of the part that the graph still has the part still has
      pub named_after : (x : ℕ) → HasRegion part x → HasRegion after x → HasRegion next x
      named_after x (f, had) (g, has) = elim (cases_eq x m.survivor) [
        | inl at_s ↦ subst (HasRegion next) (sym at_s) survivor_after
        | inr xs ↦
            let was = (after_graph.others (record { name = x; faces = g }) xs).0 has in
            (f, (after_part.others (record { name = x; faces = f }) xs).1 (had, was.1))
      ]

      -- a region after the merge is one of the part, or was there before
      pub region_before : (r : Region) → Contains after.regions r → HasRegion next r.name ⊎ Contains graph.regions r
      region_before r inside = elim (cases_eq r.name m.survivor) [
        | inl at_s ↦ inl (subst (HasRegion next) (sym at_s) survivor_after)
        | inr rs ↦ inr ((after_graph.others r rs).0 inside).0
      ]

      with_survivor : (past y : ℕ) → IsNeither m y → HasRegion part y
          → contact_in past (map (edge_after m) part.edges) m.survivor y ≡ contact_in past (map (edge_after m) graph.edges) m.survivor y
      with_survivor past y (ys, yb) has_y =
          merged-third past m part.edges y apart ys yb
          ∙ (λ i. added (same_between past m.survivor y (λ e. ys (sym e)) survivor_in has_y i)
          (same_between past m.absorbed y (λ e. yb (sym e)) absorbed_in has_y i))
          ∙ sym (merged-third past m graph.edges y apart ys yb)

      same_kinds : (past x y : ℕ) → x ≢ y → (x ≡ m.survivor) ⊎ (IsNeither m x × HasRegion part x)
          → (y ≡ m.survivor) ⊎ (IsNeither m y × HasRegion part y)
          → contact_in past (map (edge_after m) part.edges) x y ≡ contact_in past (map (edge_after m) graph.edges) x y
      same_kinds past x y xy (inl at_s) (inl also) = absurd (xy (at_s ∙ sym also))
      same_kinds past x y xy (inl at_s) (inr (not_y, has_y)) =
          subst (λ z. contact_in past (map (edge_after m) part.edges) z y ≡ contact_in past (map (edge_after m) graph.edges) z y) (sym at_s)
          (with_survivor past y not_y has_y)
      same_kinds past x y xy (inr (not_x, has_x)) (inl at_s) =
          contact_in-swap past x y (map (edge_after m) part.edges)
          ∙ subst (λ z. contact_in past (map (edge_after m) part.edges) z x ≡ contact_in past (map (edge_after m) graph.edges) z x) (sym at_s)
          (with_survivor past x not_x has_x)
          ∙ contact_in-swap past y x (map (edge_after m) graph.edges)
      same_kinds past x y xy (inr ((xs, xb), has_x)) (inr ((ys, yb), has_y)) =
          merged-others past m part.edges x y xs xb ys yb ∙ same_between past x y xy has_x has_y
          ∙ sym (merged-others past m graph.edges x y xs xb ys yb)

      same_after : (past x y : ℕ) → x ≢ y → HasRegion next x → HasRegion next y
          → contact_in past next.edges x y ≡ contact_in past after.edges x y
      same_after past x y xy has_x has_y =
          after_part.contacts past x y xy ∙ same_kinds past x y xy (kind x has_x) (kind y has_y)
          ∙ sym (after_graph.contacts past x y xy)

      edge_forth : (e : GraphEdge) → Contains next.edges e → Contains after.edges e × HasRegion next e.a × HasRegion next e.b
      edge_forth e inside =
          let is_next = after_part.graph_is in
          let less = is_next.ordered e inside in
          let from = is_next.from_region e inside in
          let to = is_next.to_region e inside in (
            edge_there after after_graph.graph_is e less (is_next.touching e inside)
                (λ past. sym (same_after past e.a e.b (λ same. absurd (omega (arith, less, same))) from to)
                ∙ edge_contact next is_next past e inside),
            from,
            to,
          )

      edge_back : (e : GraphEdge) → Contains after.edges e → HasRegion next e.a → HasRegion next e.b → Contains next.edges e
      edge_back e inside from to =
          let is_after = after_graph.graph_is in
          let less = is_after.ordered e inside in
          edge_there next after_part.graph_is e less (is_after.touching e inside)
          (λ past. same_after past e.a e.b (λ same. absurd (omega (arith, less, same))) from to
          ∙ edge_contact after is_after past e inside)

      old_in : (x z : ℕ) → HasRegion part x → IsOldName m x z → HasRegion part z
      old_in x z has (inl same) = subst (HasRegion part) (sym same) has
      old_in x z has (inr (at_s, at_b)) = subst (HasRegion part) (sym at_b) absorbed_in

      -- an edge that reaches the threshold after the merge leads from the part to the part
      joined_after : (x y : ℕ) → HasRegion next x → HasRegion after y → Joined t after x y → HasRegion next y
      joined_after x y has_x has_y joined = elim (cases_eq y m.survivor) [
        | inl at_s ↦ named_after y (subst (HasRegion part) (sym at_s) survivor_in) has_y
        | inr ys ↦
            let was = (after_graph.others (record { name = y; faces = has_y.0 }) ys).0 has_y.1 in
            let before = joined_before t graph is m after apart after_graph y x (ys, was.1) (Joined-swap t after x y joined) in
            let had = old_in x before.0 (named_before x has_x) before.2 in
            named_after y (joined_in t graph part closed before.0 y had (Joined-swap t graph y before.0 before.1)) has_y
      ]

      pub closed_after : IsClosed t after next
      closed_after = record {
        graph_is = after_part.graph_is;
        regions = regions_after;
        edges = λ e. (edge_forth e, λ (inside, from, to). edge_back e inside from to);
        closed = λ e inside reaches. (
          λ from.
              joined_after e.a e.b from (after_graph.graph_is.to_region e inside) (e, inside, inl (refl, refl), reaches),
          λ to.
              joined_after e.b e.a to (after_graph.graph_is.from_region e inside) (e, inside, inr (refl, refl), reaches),
        );
      }

    -- another part, which has none of the regions of this one, stays as it was
    module _ (after : RegionGraph) (after_graph : IsGraphAfter graph m after) (other : RegionGraph)
        (other_closed : IsClosed t graph other) (none : AreApart part other) where
      neither : (x : ℕ) → HasRegion other x → IsNeither m x
      neither x has = (
        λ at_s. none m.survivor survivor_in (subst (HasRegion other) at_s has),
        λ at_b. none m.absorbed absorbed_in (subst (HasRegion other) at_b has),
      )

      other_old : (y z : ℕ) → HasRegion other z → IsOldName m y z → HasRegion other y
      other_old y z has (inl same) = subst (HasRegion other) same has
      other_old y z has (inr (at_s, at_b)) = absurd ((neither z has).1 at_b)

      other_joined : (x y : ℕ) → HasRegion other x → Joined t after x y → HasRegion other y
      other_joined x y has joined =
          let before = joined_before t graph is m after apart after_graph x y (neither x has) joined in
          other_old y before.0 (joined_in t graph other other_closed x before.0 has before.1) before.2

      other_region : (r : Region) → Contains other.regions r → Contains after.regions r
      other_region r inside =
          let not_r = neither r.name (r.faces, inside) in
          (after_graph.others r not_r.0).1 (other_closed.regions r inside, not_r.1)

      pub other_stays : IsClosed t after other
      other_stays = record {
        graph_is = other_closed.graph_is;
        regions = other_region;
        edges = λ e. (
          λ inside.
              let was = (other_closed.edges e).0 inside in
              let kept = kept_forth t graph is m after apart after_graph e (neither e.a was.1) (neither e.b was.2) was.0 in
              (kept, was.1, was.2),
          λ (inside, from, to).
              let kept = kept_back t graph is m after apart after_graph e (neither e.a from) (neither e.b to) inside in
              (other_closed.edges e).1 (kept, from, to),
        );
        closed = λ e inside reaches. (
          λ from. other_joined e.a e.b from (e, inside, inl (refl, refl), reaches),
          λ to. other_joined e.b e.a to (e, inside, inr (refl, refl), reaches),
        );
      }
