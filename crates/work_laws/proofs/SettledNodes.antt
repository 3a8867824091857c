-- Settling the graph of a node's names is the node's work, and what is left is the node's residue.
use Rattle.std.proofs.Common.{◌≡◌, ◌≢◌, ◌⊎◌, inl, inr, ℕ, ◌<◌, Bool, true, eqb, List, [], ◌∷◌, refl, sym, ap, ◌∙◌, subst, arith}
use Rattle.std.specs.Prelude.{Contains, IsTrue, bit_and}
use Rattle.std.specs.List.{list_any}
use Rattle.std.proofs.lemmas.Bool.{eqb-true, eq-eqb, cases_eq}
use Rattle.std.proofs.lemmas.List.Folds.{Any-from_list_any, list_any_at}
use Rattle.agglo_model.specs.Grid.{Grid}
use Rattle.agglo_model.specs.PairOrder.{Threshold, Reaches}
use Rattle.agglo_model.specs.Contacts.{between, InContact}
use Rattle.agglo_model.specs.Greedy.{Merge, after_merge, after_merges}
use Rattle.agglo_model.specs.Cutting.{Chunking, artificial_faces}
use Rattle.agglo_model.specs.Freezing.{occurs_in, touched_faces, IsFrozen}
use Rattle.agglo_model.specs.Work.{IsFree, IsFirstPartner, FirstPairReaches, IsPassed, IsWork}
use Rattle.agglo_model.specs.RegionGraph.{Region, GraphEdge, RegionGraph, IsGraphOfNames, IsResidue, HasRegion, between_inside}
use Rattle.agglo_model.specs.Settling.{IsAt, IsLeft, IsLeftOf, SettlesInto, edge_of}
use Rattle.work_laws.specs.SettlingLaws.{IsNodeGraph, IsNameOf, SettlingIsWork, SettlingCellIsWork, SettlingJoinedIsWork}
use Rattle.agglo_model.proofs.ContactEdges.{between-swap, InContact-swap, InContact-names}
use Rattle.agglo_model.proofs.Means.{before-reaches}
use Rattle.agglo_model.proofs.FirstPartners.{first_partner_exists}
use Rattle.agglo_model.proofs.Freezing.{frozen_touches}
use Rattle.agglo_model.proofs.Cases.{apart_cases}
use Rattle.work_laws.proofs.FaceSets.{frozen_by_faces}
use Rattle.work_laws.proofs.InsideContacts.{inside-swap}
use Rattle.work_laws.proofs.NodeSteps.{free_contact, partner_occurs, reaching_kept, kept_edge, node_pair, graph_pair}
use Rattle.work_laws.proofs.NodeAfter.{node_after}

-- a name with a contact that reaches the threshold has a first pair that does
pub first_pair_reaches : (g : Grid) (t : Threshold) (labels : List ℕ) (x y : ℕ) → InContact g labels x y
    → Reaches t (between g labels x y) → FirstPairReaches g t labels x
first_pair_reaches g t labels x y touching reaches = elim (first_partner_exists g labels x) [
  | inl none ↦ absurd (none y touching)
  | inr (z, first) ↦ (z, first, by_partner z first (cases_eq y z))
]
  where
    by_partner : (z : ℕ) → IsFirstPartner g labels x z → (y ≡ z) ⊎ (y ≢ z) → Reaches t (between g labels x z)
    by_partner z first (inl same) = subst (λ w. Reaches t (between g labels x w)) same reaches
    by_partner z first (inr apart) = before-reaches t (between g labels x z) (between g labels x y) touching
        (first.first y apart touching) reaches

module _ (keeps : ℕ → Bool) (g : Grid) (t : Threshold) (c : Chunking) (n : ℕ) (labels : List ℕ) (last : RegionGraph)
    (node : IsNodeGraph (λ x. IsTrue (keeps x)) g t c n labels last) where
  -- whether a name is frozen
  frozen_or_free : (x : ℕ) → IsTrue (occurs_in c n labels x) → IsFrozen c n labels x ⊎ IsFree c n labels x
  frozen_or_free x occurs = elim (cases_eq (touched_faces c n labels x) 0) [
    | inl zero ↦ inr (record { occurs = occurs; unfrozen = λ frozen. (frozen_touches c n labels x).0 frozen zero })
    | inr some ↦ inl ((frozen_touches c n labels x).1 some)
  ]

  -- an edge of a free name is a contact of the whole volume
  edge_passes : (x : ℕ) → x ≢ 0 → IsFree c n labels x → (e : GraphEdge) → Contains last.edges e → IsAt x e → Reaches t e.contact
      → FirstPairReaches g t labels x
  edge_passes x some free e inside at_x reaches =
      let known = (node.graph_is.edges e).0 inside in
      let counts = node.graph_is.graph_is.touching e inside in
      elim at_x [
        | inl a ↦
            let same : e.contact ≡ between g labels x e.b =
            known.4 ∙ (λ i. between_inside g c n labels (a i) e.b) ∙ free_contact keeps g t c n labels last node x e.b some free in
            first_pair_reaches g t labels x e.b (subst (λ d. 0 < d.count) same counts) (subst (Reaches t) same reaches)
        | inr b ↦
            let same : e.contact ≡ between g labels x e.a =
            known.4 ∙ (λ i. between_inside g c n labels e.a (b i)) ∙ inside-swap g c n labels e.a x
            ∙ free_contact keeps g t c n labels last node x e.a some free in
            first_pair_reaches g t labels x e.a (subst (λ d. 0 < d.count) same counts) (subst (Reaches t) same reaches)
      ]

  -- a free name whose first pair reaches has an edge that does
  passes_edge : (x : ℕ) → x ≢ 0 → IsFree c n labels x → FirstPairReaches g t labels x
      → (e : GraphEdge) × Contains last.edges e × IsAt x e × Reaches t e.contact
  passes_edge x some free (y, first, reaches) = elim (apart_cases x y names.2) [
    | inl less ↦ (
      record { a = x; b = y; contact = between_inside g c n labels x y },
      kept_edge keeps g t c n labels last node x y kx ky less count,
      inl refl,
      subst (Reaches t) (sym own) reaches,
    )
    | inr more ↦ (
      record { a = y; b = x; contact = between_inside g c n labels y x },
      kept_edge keeps g t c n labels last node y x ky kx more (subst (λ d. 0 < d.count) (sym turn) count),
      inr refl,
      subst (Reaches t) (sym (turn ∙ own)) reaches,
    )
  ]
    where
      names : (0 < x) × (0 < y) × (x ≢ y)
      names = InContact-names g labels x y first.touching

      own : between_inside g c n labels x y ≡ between g labels x y
      own = free_contact keeps g t c n labels last node x y some free

      turn : between_inside g c n labels y x ≡ between_inside g c n labels x y
      turn = inside-swap g c n labels y x

      count : 0 < (between_inside g c n labels x y).count
      count = subst (λ d. 0 < d.count) (sym own) first.touching

      kx : IsTrue (keeps x)
      kx = reaching_kept keeps g t c n labels last node x y some free.occurs first.touching reaches

      ky : IsTrue (keeps y)
      ky = reaching_kept keeps g t c n labels last node y x (let pos = names.1 in λ e. omega arith)
          (partner_occurs keeps g t c n labels last node x y some free first.touching)
          (InContact-swap g labels x y first.touching) (subst (Reaches t) (between-swap g labels x y) reaches)

  left_passes : (r : Region) → Contains last.regions r → IsLeft t (artificial_faces c n) last r → IsPassed g t c n labels r.name
  left_passes r inside left =
      let known = (node.graph_is.regions r).0 inside in
      record {
        name = known.0;
        occurs = known.1;
        open_ = elim (frozen_or_free r.name known.1) [
          | inl frozen ↦ inl frozen
          | inr free ↦ elim left [
            | inl held ↦ inl ((frozen_by_faces c n labels r.name).1 (λ zero.
                held (ap (λ f. bit_and f (artificial_faces c n)) known.3 ∙ zero)))
            | inr (e, there, at_r, reaches) ↦ inr (edge_passes r.name known.0 free e there at_r reaches)
          ]
        ];
      }

  passed_kept : (x : ℕ) → IsPassed g t c n labels x → IsTrue (keeps x)
  passed_kept x passed = elim passed.open_ [
    | inl frozen ↦ node.frozen_kept x passed.name frozen
    | inr (y, first, reaches) ↦
        reaching_kept keeps g t c n labels last node x y passed.name passed.occurs first.touching reaches
  ]

  passed_left : (r : Region) → r.faces ≡ touched_faces c n labels r.name → IsPassed g t c n labels r.name
      → IsLeft t (artificial_faces c n) last r
  passed_left r faces passed = elim (frozen_or_free r.name passed.occurs) [
    | inl frozen ↦ inl (λ zero. (frozen_by_faces c n labels r.name).0 frozen
        (ap (λ f. bit_and f (artificial_faces c n)) (sym faces) ∙ zero))
    | inr free ↦ elim passed.open_ [
      | inl frozen ↦ absurd (free.unfrozen frozen)
      | inr reaches ↦ inr (passes_edge r.name passed.name free reaches)
    ]
  ]

  -- what is left of the graph is the residue
  pub residue_left : (left : RegionGraph) → IsLeftOf t (artificial_faces c n) last left → IsResidue g t c n labels left
  residue_left left left_is = record {
    graph_is = left_is.graph_is;
    regions = λ r. (
      λ inside.
          let known = (left_is.regions r).0 inside in
          let name = (node.graph_is.regions r).0 known.0 in
          (name.0, name.1, left_passes r known.0 known.1, name.3),
      λ (some, occurs, passed, faces).
          (left_is.regions r).1 ((node.graph_is.regions r).1 (some, occurs, passed_kept r.name passed, faces), passed_left r faces passed),
    );
    edges = λ e. (
      λ inside.
          let known = (left_is.edges e).0 inside in
          let edge = (node.graph_is.edges e).0 known.0 in
          (edge.0, of_region e.a known.1, of_region e.b known.2, edge.3, edge.4),
      λ (less, a, b, some, contact).
          (left_is.edges e).1 (
            (node.graph_is.edges e).1 (less, passed_kept e.a a, passed_kept e.b b, some, contact),
            has_region e.a a,
            has_region e.b b,
          ),
    );
  }
    where
      of_region : (x : ℕ) → HasRegion left x → IsPassed g t c n labels x
      of_region x (faces, inside) =
          let known = (left_is.regions (record { name = x; faces = faces })).0 inside in
          left_passes (record { name = x; faces = faces }) known.0 known.1

      has_region : (x : ℕ) → IsPassed g t c n labels x → HasRegion left x
      has_region x passed =
          let r : Region = record { name = x; faces = touched_faces c n labels x } in (
            touched_faces c n labels x,
            (left_is.regions r).1
                ((node.graph_is.regions r).1 (passed.name, passed.occurs, passed_kept x passed, refl), passed_left r refl passed),
          )

-- merges of reciprocal pairs of the graph until there is none are the work of the node
settled_work : (keeps : ℕ → Bool) (g : Grid) (t : Threshold) (c : Chunking) (n : ℕ) (labels : List ℕ) (graph last : RegionGraph)
    (merges : List Merge) → IsNodeGraph (λ x. IsTrue (keeps x)) g t c n labels graph → SettlesInto t (artificial_faces c n) graph merges last
    → IsWork g t c n labels merges × IsNodeGraph (λ x. IsTrue (keeps x)) g t c n (after_merges labels merges) last
settled_work keeps g t c n labels graph last [] node (same, none) = (
  λ a b recip. none (record { a = a; b = b; contact = between g labels a b }) (graph_pair keeps g t c n labels graph node a b recip),
  subst (IsNodeGraph (λ x. IsTrue (keeps x)) g t c n labels) same node,
)
settled_work keeps g t c n labels graph last (step ∷ merges) node (pair, (next, after, rest)) =
    let here = node_pair keeps g t c n labels graph node (edge_of step) pair in
    let more = settled_work keeps g t c n (after_merge labels step) next last merges
    (node_after keeps g t c n labels graph node step next pair after) rest in
    ((record { reciprocal = here.0; contact_is = here.1 }, more.0), more.1)

pub settling_is_work : SettlingIsWork
settling_is_work keeps g t c m labels graph merges left node settles =
    let done = settled_work keeps g t c m labels graph settles.last merges node settles.settled in
    record {
      work = done.0;
      residue = residue_left keeps g t c m (after_merges labels merges) settles.last done.1 left settles.left_is;
    }

-- the names that are kept, told in another way
names_told : (P Q : ℕ → Type 0) (g : Grid) (c : Chunking) (m : ℕ) (labels : List ℕ) (graph : RegionGraph)
    → ((x : ℕ) → P x → Q x) → ((x : ℕ) → Q x → P x) → IsGraphOfNames P g c m labels graph → IsGraphOfNames Q g c m labels graph
names_told P Q g c m labels graph into back names = record {
  graph_is = names.graph_is;
  regions = λ r. (
    λ inside. let known = (names.regions r).0 inside in (known.0, known.1, into r.name known.2, known.3),
    λ (some, occurs, kept, faces). (names.regions r).1 (some, occurs, back r.name kept, faces),
  );
  edges = λ e. (
    λ inside. let known = (names.edges e).0 inside in (known.0, into e.a known.1, into e.b known.2, known.3, known.4),
    λ (less, a, b, some, contact). (names.edges e).1 (less, back e.a a, back e.b b, some, contact),
  );
}

pub settling_cell_is_work : SettlingCellIsWork
settling_cell_is_work g t c m labels graph merges left place cell settles =
    settling_is_work (λ _. true) g t c m labels graph merges left
    (record {
      place = place;
      graph_is = names_told (λ _. Unit {0}) (λ _. IsTrue true) g c m labels graph (λ x _. refl) (λ x _. tt) cell;
      frozen_kept = λ x some frozen. refl;
      others_stuck = λ x y some occurs out touching reaches. out refl;
    }) settles

-- whether one of the graphs has a region of the name x
abbrev has_name : List RegionGraph → ℕ → Bool
has_name graphs x = list_any (λ graph. list_any (λ r. eqb r.name x) graph.regions) graphs

name_found : (graphs : List RegionGraph) (x : ℕ) → has_name graphs x ≡ true → IsNameOf graphs x
name_found graphs x pass =
    let one = Any-from_list_any (λ (graph : RegionGraph). list_any (λ r. eqb r.name x) graph.regions) graphs pass in
    let other = Any-from_list_any (λ (r : Region). eqb r.name x) one.1.regions one.4 in (
      one.1,
      (one.0, one.2, one.3),
      (
        other.1.faces,
        subst (λ y. Contains one.1.regions (record { name = y; faces = other.1.faces })) (eqb-true other.1.name x other.4) (other.0, other.2, other.3),
      ),
    )

name_tested : (graphs : List RegionGraph) (x : ℕ) → IsNameOf graphs x → has_name graphs x ≡ true
name_tested graphs x (graph, (k, below, here), (faces, (j, under, there))) =
    list_any_at (λ (h : RegionGraph). list_any (λ r. eqb r.name x) h.regions) graphs k graph below
    (ap (λ (h : RegionGraph). list_any (λ r. eqb r.name x) h.regions) here
    ∙ list_any_at (λ (r : Region). eqb r.name x) graph.regions j (record { name = x; faces = faces }) under
    (ap (λ (r : Region). eqb r.name x) there ∙ eq-eqb x x refl))

pub settling_joined_is_work : SettlingJoinedIsWork
settling_joined_is_work graphs g t c m labels graph merges left node settles =
    settling_is_work (has_name graphs) g t c m labels graph merges left
    (record {
      place = node.place;
      graph_is = names_told (IsNameOf graphs) (λ x. IsTrue (has_name graphs x)) g c m labels graph
          (name_tested graphs) (name_found graphs) node.graph_is;
      frozen_kept = λ x some frozen. name_tested graphs x (node.frozen_kept x some frozen);
      others_stuck = λ x y some occurs out. node.others_stuck x y some occurs (λ named. out (name_tested graphs x named));
    }) settles
