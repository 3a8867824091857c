-- The graph after a merge is that of the node's names after it.
use Rattle.std.proofs.Common.{◌≡◌, ◌≢◌, ◌⊎◌, inl, inr, ℕ, ◌<◌, Bool, ◌&&◌, List, sym, ap, ◌∙◌, subst, arith}
use Rattle.std.specs.Prelude.{◌↔◌, Contains, IsTrue, map, bit_or}
use Rattle.std.proofs.lemmas.Bool.{and_parts, cases_eq}
use Rattle.agglo_model.specs.Axes.{edge_count}
use Rattle.agglo_model.specs.Grid.{Grid}
use Rattle.agglo_model.specs.PairOrder.{Contact, Threshold, added}
use Rattle.agglo_model.specs.Contacts.{joins, renamed}
use Rattle.agglo_model.specs.Greedy.{Merge}
use Rattle.agglo_model.specs.Cutting.{Chunking, artificial_faces}
use Rattle.agglo_model.specs.Freezing.{is_inside, occurs_in, touched_faces, IsFrozen}
use Rattle.agglo_model.specs.Work.{IsReciprocal}
use Rattle.agglo_model.specs.RegionGraph.{Region, GraphEdge, RegionGraph, IsGraphOfNames, between_inside, contact_in, no_contact}
use Rattle.agglo_model.specs.Settling.{IsReciprocalEdge, IsGraphAfter, HasBothFaces, edge_of, edge_after}
use Rattle.work_laws.specs.SettlingLaws.{IsNodeGraph}
use Rattle.agglo_model.proofs.Totals.{total-none, total-tie}
use Rattle.agglo_model.proofs.ContactEdges.{InContact-from_edge, InContact-names, InContact-swap}
use Rattle.agglo_model.proofs.Diamonds.{InContact-absorbed}
use Rattle.agglo_model.proofs.StuckNames.{stuck_after}
use Rattle.agglo_model.proofs.ConnectedMerges.{merges_keep_connected}
use Rattle.agglo_model.proofs.Freezing.{frozen_touches}
use Rattle.agglo_model.proofs.GraphContacts.{same_contact}
use Rattle.agglo_model.proofs.GraphMerges.{contact_in-swap, merged-third, merged-gone, merged-others}
use Rattle.agglo_model.proofs.GraphEdges.{edge_contact, edge_of_contact, same_edges}
use Rattle.agglo_model.proofs.Cases.{name_cases, zero_from_not_ne}
use Rattle.work_laws.proofs.InsideContacts.{inside-swap, inside-third, inside-others, names_contact}
use Rattle.work_laws.proofs.RenamedNames.{occurs-renamed, touched-renamed, absorbed_gone, survivor_occurs, frozen_before, frozen_other}
use Rattle.work_laws.proofs.NodeSteps.{node_pair, region_name}

not_some_zero : (n : ℕ) → ((0 < n) → ⊥) → n ≡ 0
not_some_zero n h = grind arith

-- a name that isn't frozen touches no artificial face
unfrozen_faces : (c : Chunking) (n : ℕ) (labels : List ℕ) (x : ℕ) → ¬ (IsFrozen c n labels x) → touched_faces c n labels x ≡ 0
unfrozen_faces c n labels x unfrozen =
    zero_from_not_ne (touched_faces c n labels x) (λ some. unfrozen ((frozen_touches c n labels x).1 some))

-- the absorbed name has no contact inside
inside-gone : (g : Grid) (c : Chunking) (n : ℕ) (labels : List ℕ) (a b y : ℕ) → a ≢ b → b ≢ 0
    → between_inside g c n (renamed labels a b) b y ≡ no_contact (edge_count g.axes)
inside-gone g c n labels a b y ab pb =
    let test = λ (e : ℕ). joins g (renamed labels a b) b y e && is_inside c n e in
    let none : (between_inside g c n (renamed labels a b) b y).count ≡ 0 =
    not_some_zero (between_inside g c n (renamed labels a b) b y).count (λ some.
    let tie = total-tie g test some in
    let joined = and_parts (joins g (renamed labels a b) b y (between_inside g c n (renamed labels a b) b y).tie) _ tie.1 in
    InContact-absorbed g labels a b y ab pb
    (InContact-swap g (renamed labels a b) b y
    (InContact-from_edge g (renamed labels a b) b y (between_inside g c n (renamed labels a b) b y).tie joined.0))) in
    let nothing = total-none g test none in
    same_contact (between_inside g c n (renamed labels a b) b y) (no_contact (edge_count g.axes)) nothing.0 none nothing.1

module _ (keeps : ℕ → Bool) (g : Grid) (t : Threshold) (c : Chunking) (n : ℕ) (labels : List ℕ) (graph : RegionGraph)
    (node : IsNodeGraph (λ x. IsTrue (keeps x)) g t c n labels graph) (step : Merge) (next : RegionGraph)
    (pair : IsReciprocalEdge t (artificial_faces c n) graph (edge_of step)) (after : IsGraphAfter graph step next) where
  -- what is known of the two names
  recip : IsReciprocal g t c n labels step.survivor step.absorbed
  recip = (node_pair keeps g t c n labels graph node (edge_of step) pair).0

  apart : step.survivor ≢ step.absorbed
  apart = let less = recip.pair.ordered in λ e. omega arith

  s_some : step.survivor ≢ 0
  s_some = let names = InContact-names g labels step.survivor step.absorbed recip.pair.touching in λ e. omega arith

  b_some : step.absorbed ≢ 0
  b_some = let names = InContact-names g labels step.survivor step.absorbed recip.pair.touching in λ e. omega arith

  s_kept : IsTrue (keeps step.survivor)
  s_kept = ((node.graph_is.edges (edge_of step)).0 pair.there).1

  b_kept : IsTrue (keeps step.absorbed)
  b_kept = ((node.graph_is.edges (edge_of step)).0 pair.there).2

  -- the survivor touches no artificial face, before and after
  s_faces : touched_faces c n labels step.survivor ≡ 0
  s_faces = unfrozen_faces c n labels step.survivor recip.a_free.unfrozen

  b_faces : touched_faces c n labels step.absorbed ≡ 0
  b_faces = unfrozen_faces c n labels step.absorbed recip.b_free.unfrozen

  later_faces : touched_faces c n (renamed labels step.survivor step.absorbed) step.survivor ≡ 0
  later_faces = unfrozen_faces c n (renamed labels step.survivor step.absorbed) step.survivor
      (λ frozen. elim (frozen_before c n labels step.survivor step.absorbed b_some frozen) [
        | inl one ↦ recip.a_free.unfrozen one
        | inr other ↦ recip.b_free.unfrozen other
      ])

  abbrev IsNameAfter : Region → Type 0
  IsNameAfter r = (r.name ≢ 0) × IsTrue (occurs_in c n (renamed labels step.survivor step.absorbed) r.name) × IsTrue (keeps r.name)
      × (r.faces ≡ touched_faces c n (renamed labels step.survivor step.absorbed) r.name)

  survivor_forth : (faces : ℕ) → HasBothFaces graph step faces → IsNameAfter (record { name = step.survivor; faces = faces })
  survivor_forth faces both =
      let own = region_name keeps g t c n labels graph node step.survivor both.own both.survivor in
      let taken = region_name keeps g t c n labels graph node step.absorbed both.taken both.absorbed in (
        s_some,
        survivor_occurs c n labels step.survivor step.absorbed b_some recip.a_free.occurs,
        s_kept,
        both.both ∙ (λ i. bit_or ((own.3 ∙ s_faces) i) ((taken.3 ∙ b_faces) i)) ∙ sym later_faces,
      )

  survivor_back : (faces : ℕ) → faces ≡ touched_faces c n (renamed labels step.survivor step.absorbed) step.survivor
      → HasBothFaces graph step faces
  survivor_back faces same =
      let from = node.graph_is.graph_is.from_region (edge_of step) pair.there in
      let to = node.graph_is.graph_is.to_region (edge_of step) pair.there in
      let own = region_name keeps g t c n labels graph node step.survivor from.0 from.1 in
      let taken = region_name keeps g t c n labels graph node step.absorbed to.0 to.1 in
      record {
        own = from.0;
        taken = to.0;
        survivor = from.1;
        absorbed = to.1;
        both = same ∙ later_faces ∙ (λ i. bit_or (sym (own.3 ∙ s_faces) i) (sym (taken.3 ∙ b_faces) i));
      }

  regions_after : (r : Region) → Contains next.regions r ↔ IsNameAfter r
  regions_after r = elim (cases_eq r.name step.survivor) [
    | inl at_s ↦
        subst (λ x. Contains next.regions (record { name = x; faces = r.faces }) ↔ IsNameAfter (record { name = x; faces = r.faces })) (sym at_s) (
          λ inside. survivor_forth r.faces ((after.survivor r.faces).0 inside),
          λ known. (after.survivor r.faces).1 (survivor_back r.faces known.3),
        )
    | inr rs ↦ (
      λ inside.
          let was = (after.others r rs).0 inside in
          let known = (node.graph_is.regions r).0 was.0 in (
            known.0,
            subst (λ b. IsTrue b) (sym (occurs-renamed c n labels step.survivor step.absorbed r.name b_some rs was.1)) known.1,
            known.2,
            known.3 ∙ sym (touched-renamed c n labels step.survivor step.absorbed r.name b_some rs was.1),
          ),
      λ known.
          let rb : r.name ≢ step.absorbed = λ e. absorbed_gone c n labels step.survivor step.absorbed apart b_some
          (subst (λ x. IsTrue (occurs_in c n (renamed labels step.survivor step.absorbed) x)) e known.1) in
          (after.others r rs).1 (
            (node.graph_is.regions r).1 (
              known.0,
              subst (λ b. IsTrue b) (occurs-renamed c n labels step.survivor step.absorbed r.name b_some rs rb) known.1,
              known.2,
              known.3 ∙ touched-renamed c n labels step.survivor step.absorbed r.name b_some rs rb,
            ),
            rb,
          ),
    )
  ]

  -- the contact of two kept names after the merge
  SameAfter : ℕ → ℕ → Type 0
  SameAfter x y = contact_in (edge_count g.axes) (map (edge_after step) graph.edges) x y
      ≡ between_inside g c n (renamed labels step.survivor step.absorbed) x y

  known_contact : (x y : ℕ) → IsTrue (keeps x) → IsTrue (keeps y) → x ≢ y
      → contact_in (edge_count g.axes) graph.edges x y ≡ between_inside g c n labels x y
  known_contact x y kx ky xy = names_contact (λ z. IsTrue (keeps z)) g c n labels graph node.graph_is x y kx ky xy

  at_survivor : (y : ℕ) → IsTrue (keeps y) → y ≢ step.survivor → y ≢ step.absorbed → SameAfter step.survivor y
  unfolding SameAfter
  at_survivor y ky ys yb =
      merged-third (edge_count g.axes) step graph.edges y apart ys yb
      ∙ (λ i. added (known_contact step.survivor y s_kept ky (λ e. ys (sym e)) i) (known_contact step.absorbed y b_kept ky (λ e. yb (sym e)) i))
      ∙ sym (inside-third g c n labels step.survivor step.absorbed y apart s_some b_some ys yb)

  at_absorbed : (y : ℕ) → SameAfter step.absorbed y
  unfolding SameAfter
  at_absorbed y =
      merged-gone (edge_count g.axes) step graph.edges y apart
      ∙ sym (inside-gone g c n labels step.survivor step.absorbed y apart b_some)

  turned : (x y : ℕ) → SameAfter y x → SameAfter x y
  unfolding SameAfter
  turned x y same =
      contact_in-swap (edge_count g.axes) x y (map (edge_after step) graph.edges) ∙ same
      ∙ inside-swap g c n (renamed labels step.survivor step.absorbed) y x

  with_survivor : (y : ℕ) → IsTrue (keeps y) → y ≢ step.survivor
      → (y ≡ step.survivor) ⊎ (y ≡ step.absorbed) ⊎ ((y ≢ step.survivor) × (y ≢ step.absorbed)) → SameAfter step.survivor y
  with_survivor y ky ys (inl at_s) = absurd (ys at_s)
  with_survivor y ky ys (inr (inl at_b)) =
      subst (SameAfter step.survivor) (sym at_b) (turned step.survivor step.absorbed (at_absorbed step.survivor))
  with_survivor y ky ys (inr (inr (ys', yb))) = at_survivor y ky ys yb

  contact_after : (x y : ℕ) → IsTrue (keeps x) → IsTrue (keeps y) → x ≢ y
      → (x ≡ step.survivor) ⊎ (x ≡ step.absorbed) ⊎ ((x ≢ step.survivor) × (x ≢ step.absorbed))
      → (y ≡ step.survivor) ⊎ (y ≡ step.absorbed) ⊎ ((y ≢ step.survivor) × (y ≢ step.absorbed)) → SameAfter x y
  unfolding SameAfter
  contact_after x y kx ky xy (inl at_s) other =
      subst (λ z. SameAfter z y) (sym at_s) (with_survivor y ky (λ e. xy (at_s ∙ sym e)) other)
  contact_after x y kx ky xy (inr (inl at_b)) other = subst (λ z. SameAfter z y) (sym at_b) (at_absorbed y)
  contact_after x y kx ky xy (inr (inr (xs, xb))) (inl at_s) =
      turned x y (subst (λ z. SameAfter z x) (sym at_s) (at_survivor x kx xs xb))
  contact_after x y kx ky xy (inr (inr (xs, xb))) (inr (inl at_b)) =
      turned x y (subst (λ z. SameAfter z x) (sym at_b) (at_absorbed x))
  contact_after x y kx ky xy (inr (inr (xs, xb))) (inr (inr (ys, yb))) =
      merged-others (edge_count g.axes) step graph.edges x y xs xb ys yb
      ∙ known_contact x y kx ky xy
      ∙ sym (inside-others g c n labels step.survivor step.absorbed x y b_some xs xb ys yb)

  next_contact : (x y : ℕ) → IsTrue (keeps x) → IsTrue (keeps y) → x ≢ y
      → contact_in (edge_count g.axes) next.edges x y ≡ between_inside g c n (renamed labels step.survivor step.absorbed) x y
  unfolding SameAfter
  next_contact x y kx ky xy =
      after.contacts (edge_count g.axes) x y xy
      ∙ contact_after x y kx ky xy (name_cases x step.survivor step.absorbed) (name_cases y step.survivor step.absorbed)

  -- an edge after the merge is that of its names
  edge_forth : (e : GraphEdge) → Contains next.edges e → IsTrue (keeps e.a) × IsTrue (keeps e.b)
      × (e.contact ≡ between_inside g c n (renamed labels step.survivor step.absorbed) e.a e.b)
  edge_forth e inside =
      let is = after.graph_is in
      let less = is.ordered e inside in
      let from = is.from_region e inside in
      let to = is.to_region e inside in
      let ka = ((regions_after (record { name = e.a; faces = from.0 })).0 from.1).2 in
      let kb = ((regions_after (record { name = e.b; faces = to.0 })).0 to.1).2 in
      let here : added e.contact (no_contact (edge_count g.axes)) ≡ between_inside g c n (renamed labels step.survivor step.absorbed) e.a e.b =
      sym (edge_contact next is (edge_count g.axes) e inside) ∙ next_contact e.a e.b ka kb (λ z. absurd (omega (arith, less, z))) in
      let some = is.touching e inside in (
        ka,
        kb,
        same_of e.contact (between_inside g c n (renamed labels step.survivor step.absorbed) e.a e.b) here some
            (λ counts. (total-tie g (λ f. joins g (renamed labels step.survivor step.absorbed) e.a e.b f && is_inside c n f) counts).0),
      )
    where
      same_of : (d whole : Contact) → added d (no_contact (edge_count g.axes)) ≡ whole → 0 < d.count
          → (0 < whole.count → whole.tie < edge_count g.axes) → d ≡ whole
      same_of d whole same some low =
          let sum = ap (λ z. z.sum) same in
          let count = ap (λ z. z.count) same in
          let tie = ap (λ z. z.tie) same in
          let below = low (omega (arith, count, some)) in
          same_contact d whole (omega (arith, sum)) (omega (arith, count)) (omega (arith, tie, below))

  edge_back : (e : GraphEdge) → e.a < e.b → IsTrue (keeps e.a) → IsTrue (keeps e.b)
      → 0 < (between_inside g c n (renamed labels step.survivor step.absorbed) e.a e.b).count
      → e.contact ≡ between_inside g c n (renamed labels step.survivor step.absorbed) e.a e.b → Contains next.edges e
  edge_back e less ka kb some contact =
      let same = next_contact e.a e.b ka kb (λ z. absurd (omega (arith, less, z))) in
      let found = edge_of_contact next after.graph_is (edge_count g.axes) e.a e.b less (subst (λ d. 0 < d.count) (sym same) some) in
      let f = found.0 in
      let own = (edge_forth f found.1).2 in
      subst (Contains next.edges)
      (same_edges f e found.2 found.3
      (own ∙ (λ i. between_inside g c n (renamed labels step.survivor step.absorbed) (found.2 i) (found.3 i)) ∙ sym contact)) found.1

  names_after : IsGraphOfNames (λ x. IsTrue (keeps x)) g c n (renamed labels step.survivor step.absorbed) next
  names_after = record {
    graph_is = after.graph_is;
    regions = regions_after;
    edges = λ e. (
      λ inside.
          let known = edge_forth e inside in
          (after.graph_is.ordered e inside, known.0, known.1, subst (λ d. 0 < d.count) known.2 (after.graph_is.touching e inside), known.2),
      λ (less, ka, kb, some, contact). edge_back e less ka kb some contact,
    );
  }

  -- a name that is kept is none of two names, one of which isn't
  other_name : (x y : ℕ) → ¬ (IsTrue (keeps x)) → IsTrue (keeps y) → x ≢ y
  other_name x y out ky e = out (subst (λ z. IsTrue (keeps z)) (sym e) ky)

  pub node_after : IsNodeGraph (λ x. IsTrue (keeps x)) g t c n (renamed labels step.survivor step.absorbed) next
  node_after = record {
    place = record {
      cutting = node.place.cutting;
      axes = node.place.axes;
      node = node.place.node;
      connected = merges_keep_connected g labels step.survivor step.absorbed recip.pair.touching node.place.connected;
    };
    graph_is = names_after;
    frozen_kept = λ x some frozen. elim (name_cases x step.survivor step.absorbed) [
      | inl at_s ↦ subst (λ z. IsTrue (keeps z)) (sym at_s) s_kept
      | inr (inl at_b) ↦ subst (λ z. IsTrue (keeps z)) (sym at_b) b_kept
      | inr (inr (xs, xb)) ↦ node.frozen_kept x some (frozen_other c n labels step.survivor step.absorbed x b_some xs xb frozen)
    ];
    others_stuck = λ x y some occurs out.
        let xs = other_name x step.survivor out s_kept in
        let xb = other_name x step.absorbed out b_kept in
        stuck_after g t labels step.survivor step.absorbed x apart s_some b_some xs xb
        (λ z. node.others_stuck x z some
        (subst (λ b. IsTrue b) (occurs-renamed c n labels step.survivor step.absorbed x b_some xs xb) occurs) out) y;
  }
