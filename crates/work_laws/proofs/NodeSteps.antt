-- Reciprocal edges of the graph of a node's names are the reciprocal pairs of the node.
use Rattle.std.proofs.Common.{◌≡◌, ◌≢◌, ◌⊎◌, inl, inr, ℕ, ◌<◌, Bool, true, false, List, refl, sym, ap, ◌∙◌, subst, arith}
use Rattle.std.specs.Prelude.{Contains, IsTrue, bit_and}
use Rattle.std.proofs.lemmas.Bool.{false≢true, and_parts, cases_Bool, cases_eq}
use Rattle.agglo_model.specs.Axes.{is_edge, lower_end, higher_end}
use Rattle.agglo_model.specs.Basins.{label_of}
use Rattle.agglo_model.specs.Grid.{Grid}
use Rattle.agglo_model.specs.PairOrder.{Threshold, Before, Reaches}
use Rattle.agglo_model.specs.Contacts.{between, InContact, lower_label, higher_label}
use Rattle.agglo_model.specs.Cutting.{Chunking, artificial_faces}
use Rattle.agglo_model.specs.Freezing.{is_held, occurs_in, touched_faces}
use Rattle.agglo_model.specs.Work.{IsFree, IsReciprocal}
use Rattle.agglo_model.specs.NodeLaws.{LiesInside}
use Rattle.agglo_model.specs.RegionGraph.{GraphEdge, RegionGraph, HasRegion, between_inside}
use Rattle.agglo_model.specs.Settling.{IsFreeIn, IsReciprocalEdge}
use Rattle.work_laws.specs.SettlingLaws.{IsNodeGraph}
use Rattle.agglo_model.proofs.ContactEdges.{between-swap, InContact-swap, InContact-names, InContact-tie, same_tie}
use Rattle.agglo_model.proofs.Means.{before_irrefl, before_asym, before_total, before-reaches}
use Rattle.agglo_model.proofs.FirstPairs.{names_are}
use Rattle.agglo_model.proofs.Freezing.{occurs_at, part_from}
use Rattle.agglo_model.proofs.FreeNames.{free_names_lie_inside}
use Rattle.work_laws.proofs.FaceSets.{frozen_by_faces}
use Rattle.work_laws.proofs.InsideContacts.{inside-all, inside-swap}
use Rattle.agglo_model.proofs.GraphFirsts.{IsFirstAt}
use Rattle.agglo_model.proofs.Cases.{apart_cases, zero_from_not_ne, not_pair}

module _ (keeps : ℕ → Bool) (g : Grid) (t : Threshold) (c : Chunking) (m : ℕ) (labels : List ℕ) (graph : RegionGraph)
    (node : IsNodeGraph (λ x. IsTrue (keeps x)) g t c m labels graph) where
  -- what is known of a region of the graph
  pub region_name : (x faces : ℕ) → Contains graph.regions (record { name = x; faces = faces })
      → (x ≢ 0) × IsTrue (occurs_in c m labels x) × IsTrue (keeps x) × (faces ≡ touched_faces c m labels x)
  region_name x faces inside = (node.graph_is.regions (record { name = x; faces = faces })).0 inside

  -- a region that is free in the graph is that of a free name
  pub free_name : (x : ℕ) → HasRegion graph x → IsFreeIn graph (artificial_faces c m) x → IsFree c m labels x
  free_name x (faces, inside) free =
      let known = region_name x faces inside in
      record {
        occurs = known.1;
        unfrozen = λ frozen. (frozen_by_faces c m labels x).0 frozen
            (subst (λ n. bit_and n (artificial_faces c m) ≡ 0) known.3 (free (record { name = x; faces = faces }) inside refl));
      }

  pub free_region : (x : ℕ) → IsFree c m labels x → IsFreeIn graph (artificial_faces c m) x
  free_region x free r inside name =
      let known = (node.graph_is.regions r).0 inside in
      let zero : bit_and (touched_faces c m labels x) (artificial_faces c m) ≡ 0 =
      zero_from_not_ne (bit_and (touched_faces c m labels x) (artificial_faces c m))
      (λ some. free.unfrozen ((frozen_by_faces c m labels x).1 some)) in
      ap (λ n. bit_and n (artificial_faces c m)) (known.3 ∙ ap (touched_faces c m labels) name) ∙ zero

  lies : (x : ℕ) → x ≢ 0 → IsFree c m labels x → LiesInside g c m labels x
  lies x some free = free_names_lie_inside g c m labels x node.place.cutting node.place.axes node.place.node node.place.connected some free

  -- the contacts of a free name are those of the whole volume
  pub free_contact : (x y : ℕ) → x ≢ 0 → IsFree c m labels x → between_inside g c m labels x y ≡ between g labels x y
  free_contact x y some free = inside-all g c m labels x y (λ e joined. (lies x some free).contacts y e joined)

  -- a name in contact with a free name occurs in the cell
  pub partner_occurs : (x y : ℕ) → x ≢ 0 → IsFree c m labels x → InContact g labels x y → IsTrue (occurs_in c m labels y)
  partner_occurs x y some free touching =
      let e = (between g labels x y).tie in
      let joined = InContact-tie g labels x y touching in
      let inside = (lies x some free).contacts y e joined in
      let held = and_parts (is_held c m (lower_end c.axes e)) (is_held c m (higher_end e)) inside in
      elim (names_are (is_edge g.axes e) (lower_label g labels e) (higher_label g labels e) x y joined) [
        | inl (low, high) ↦ (occurs_at c m labels y).1 (higher_end e, part_from c m labels y (higher_end e) held.1 high)
        | inr (low, high) ↦ (occurs_at c m labels y).1 (
          lower_end c.axes e,
          part_from c m labels y (lower_end c.axes e) held.0
              (subst (λ a. label_of labels (lower_end a e) ≡ y) (sym node.place.axes) low),
        )
      ]

  -- a name whose contact with another reaches the threshold is kept
  pub reaching_kept : (x y : ℕ) → x ≢ 0 → IsTrue (occurs_in c m labels x) → InContact g labels x y
      → Reaches t (between g labels x y) → IsTrue (keeps x)
  reaching_kept x y some occurs touching reaches = elim (cases_Bool (keeps x)) [
    | inl kept ↦ kept
    | inr out ↦ absurd (node.others_stuck x y some occurs (λ kept. false≢true (sym out ∙ kept)) touching reaches)
  ]

  -- the edge between two kept names in contact inside the cell
  pub kept_edge : (x y : ℕ) → IsTrue (keeps x) → IsTrue (keeps y) → x < y → 0 < (between_inside g c m labels x y).count
      → Contains graph.edges (record { a = x; b = y; contact = between_inside g c m labels x y })
  kept_edge x y kx ky xy some =
      (node.graph_is.edges (record { a = x; b = y; contact = between_inside g c m labels x y })).1 (xy, kx, ky, some, refl)

  -- the contact of a free name with another reaches the threshold, and no edge at the free name comes before it:
  -- then it comes before all other contacts of that name
  comes_first : (x y z : ℕ) → x ≢ 0 → IsFree c m labels x → IsTrue (keeps x) → InContact g labels x y
      → Reaches t (between g labels x y) → IsFirstAt graph x (between g labels x y) → z ≢ y → InContact g labels x z
      → Before (between g labels x y) (between g labels x z)
  comes_first x y z some free kept touching reaches first zy meets =
      elim (before_total (between g labels x y) (between g labels x z) ties) [
        | inl before ↦ before
        | inr after ↦ absurd (by_kept (cases_Bool (keeps z)) after)
      ]
    where
      names : (0 < x) × (0 < z) × (x ≢ z)
      names = InContact-names g labels x z meets

      ties : (between g labels x y).tie ≢ (between g labels x z).tie
      ties same = not_pair x y z (InContact-names g labels x y touching).2 zy (same_tie g labels x y x z touching meets same)

      occurs : IsTrue (occurs_in c m labels z)
      occurs = partner_occurs x z some free meets

      count : 0 < (between_inside g c m labels x z).count
      count = subst (λ d. 0 < d.count) (sym (free_contact x z some free)) meets

      in_graph : IsTrue (keeps z) → (x < z) ⊎ (z < x) → ¬ (Before (between g labels x z) (between g labels x y))
      in_graph kz (inl less) before =
          first (record { a = x; b = z; contact = between_inside g c m labels x z }) (kept_edge x z kept kz less count) (inl refl)
          (subst (λ d. Before d (between g labels x y)) (sym (free_contact x z some free)) before)
      in_graph kz (inr more) before =
          let turn = inside-swap g c m labels z x in
          first (record { a = z; b = x; contact = between_inside g c m labels z x })
          (kept_edge z x kz kept more (subst (λ d. 0 < d.count) (sym turn) count)) (inr refl)
          (subst (λ d. Before d (between g labels x y)) (sym (turn ∙ free_contact x z some free)) before)

      by_kept : (keeps z ≡ true) ⊎ (keeps z ≡ false) → ¬ (Before (between g labels x z) (between g labels x y))
      by_kept (inl kz) before = in_graph kz (apart_cases x z names.2) before
      by_kept (inr out) before =
          node.others_stuck z x (let pos = names.1 in λ e. omega arith) occurs (λ kz. false≢true (sym out ∙ kz))
          (InContact-swap g labels x z meets)
          (subst (Reaches t) (between-swap g labels x z)
          (before-reaches t (between g labels x z) (between g labels x y) touching before reaches))

  -- a reciprocal edge of the graph is a reciprocal pair of the node
  pub node_pair : (e : GraphEdge) → IsReciprocalEdge t (artificial_faces c m) graph e
      → IsReciprocal g t c m labels e.a e.b × (e.contact ≡ between g labels e.a e.b)
  node_pair e pair =
      let known = (node.graph_is.edges e).0 pair.there in
      let from = node.graph_is.graph_is.from_region e pair.there in
      let to = node.graph_is.graph_is.to_region e pair.there in
      let a_name = region_name e.a from.0 from.1 in
      let b_name = region_name e.b to.0 to.1 in
      let a_free = free_name e.a from pair.a_free in
      let b_free = free_name e.b to pair.b_free in
      let contact : e.contact ≡ between g labels e.a e.b = known.4 ∙ free_contact e.a e.b a_name.0 a_free in
      let back : e.contact ≡ between g labels e.b e.a = contact ∙ between-swap g labels e.a e.b in
      let some : 0 < e.contact.count = node.graph_is.graph_is.touching e pair.there in
      let touching : InContact g labels e.a e.b = subst (λ d. 0 < d.count) contact some in
      let touching' : InContact g labels e.b e.a = subst (λ d. 0 < d.count) back some in (
        record {
          pair = record {
            ordered = known.0;
            touching = touching;
            first_of_a = λ z zb meets. comes_first e.a e.b z a_name.0 a_free known.1 touching (subst (Reaches t) contact pair.reaches)
                (subst (IsFirstAt graph e.a) contact pair.first_of_a) zb meets;
            first_of_b = λ z za meets. subst (λ d. Before d (between g labels e.b z)) (between-swap g labels e.b e.a)
                (comes_first e.b e.a z b_name.0 b_free known.2 touching' (subst (Reaches t) back pair.reaches)
                (subst (IsFirstAt graph e.b) back pair.first_of_b) za meets);
            reaches = subst (Reaches t) contact pair.reaches;
          };
          a_free = a_free;
          b_free = b_free;
        },
        contact,
      )

  -- no edge at a free name comes before the contact with its first partner
  no_edge_before : (x y : ℕ) → x ≢ 0 → IsFree c m labels x
      → ((z : ℕ) → z ≢ y → InContact g labels x z → Before (between g labels x y) (between g labels x z))
      → IsFirstAt graph x (between g labels x y)
  no_edge_before x y some free first f inside at_f before =
      let known = (node.graph_is.edges f).0 inside in
      elim at_f [
        | inl a ↦ late f.b (contact_a known.4 a) (node.graph_is.graph_is.touching f inside) before
        | inr b ↦ late f.a (contact_b known.4 b) (node.graph_is.graph_is.touching f inside) before
      ]
    where
      contact_a : f.contact ≡ between_inside g c m labels f.a f.b → f.a ≡ x → f.contact ≡ between g labels x f.b
      contact_a same a = same ∙ (λ i. between_inside g c m labels (a i) f.b) ∙ free_contact x f.b some free

      contact_b : f.contact ≡ between_inside g c m labels f.a f.b → f.b ≡ x → f.contact ≡ between g labels x f.a
      contact_b same b = same ∙ (λ i. between_inside g c m labels f.a (b i)) ∙ inside-swap g c m labels f.a x ∙ free_contact x f.a some free

      late : (z : ℕ) → f.contact ≡ between g labels x z → 0 < f.contact.count → Before f.contact (between g labels x y) → ⊥
      late z same some before = elim (cases_eq z y) [
        | inl equal ↦ before_irrefl (between g labels x y) (subst (λ d. Before d (between g labels x y)) (same ∙ ap (between g labels x) equal) before)
        | inr apart ↦ before_asym (between g labels x y) (between g labels x z)
            (first z apart (subst (λ d. 0 < d.count) same some)) (subst (λ d. Before d (between g labels x y)) same before)
      ]

  -- and a reciprocal pair of the node is one
  pub graph_pair : (a b : ℕ) → IsReciprocal g t c m labels a b
      → IsReciprocalEdge t (artificial_faces c m) graph (record { a = a; b = b; contact = between g labels a b })
  graph_pair a b recip =
      let pair = recip.pair in
      let names = InContact-names g labels a b pair.touching in
      let a_some : a ≢ 0 = let pos = names.0 in λ e. omega arith in
      let b_some : b ≢ 0 = let pos = names.1 in λ e. omega arith in
      let swap = between-swap g labels a b in
      let ka = reaching_kept a b a_some recip.a_free.occurs pair.touching pair.reaches in
      let kb = reaching_kept b a b_some recip.b_free.occurs (InContact-swap g labels a b pair.touching) (subst (Reaches t) swap pair.reaches) in
      let own = free_contact a b a_some recip.a_free in
      record {
        there = subst (λ d. Contains graph.edges (record { a = a; b = b; contact = d })) own
            (kept_edge a b ka kb pair.ordered (subst (λ d. 0 < d.count) (sym own) pair.touching));
        a_free = free_region a recip.a_free;
        b_free = free_region b recip.b_free;
        reaches = pair.reaches;
        first_of_a = no_edge_before a b a_some recip.a_free pair.first_of_a;
        first_of_b = subst (IsFirstAt graph b) (sym swap) (no_edge_before b a b_some recip.b_free
            (λ z za meets. subst (λ d. Before d (between g labels b z)) swap (pair.first_of_b z za meets)));
      }
