-- Two lists of connected labels that agree in the cell of a node: by both, the node has the same reciprocal pairs and
-- the same residue.
use Rattle.std.proofs.Common.{◌≡◌, ◌≢◌, ◌⊎◌, inl, inr, ℕ, ◌<◌, IsTrue, List, sym, ◌∙◌, subst, arith}
use Rattle.std.proofs.lemmas.Bool.{cases_eq}
use Rattle.agglo_model.specs.Grid.{Grid}
use Rattle.agglo_model.specs.PairOrder.{Threshold, Before, Reaches}
use Rattle.agglo_model.specs.Contacts.{between}
use Rattle.agglo_model.specs.Connected.{AreConnected}
use Rattle.agglo_model.specs.Cutting.{Chunking, IsChunking, node_count}
use Rattle.agglo_model.specs.Freezing.{occurs_in, touched_faces, IsFrozen}
use Rattle.agglo_model.specs.Work.{IsFree, IsReciprocal, IsPassed, IsFirstPartner, FirstPairReaches}
use Rattle.agglo_model.specs.RegionGraph.{RegionGraph, IsGraphOfNames, IsResidue, between_inside}
use Rattle.agglo_model.proofs.ContactEdges.{InContact-names}
use Rattle.agglo_model.proofs.Diamonds.{first_partner_of_a, first_partner_of_b, mutual_from_partners}
use Rattle.agglo_model.proofs.Freezing.{frozen_touches}
use Rattle.agglo_model.proofs.FreeNames.{free_names_lie_inside}
use Rattle.work_laws.proofs.InsideContacts.{inside-all}
use Rattle.work_laws.proofs.SameCells.{AgreeIn, same_occurs, frozen_alike, same_between, same_graph}

frozen_or_not : (c : Chunking) (m : ℕ) (labels : List ℕ) (x : ℕ) → IsFrozen c m labels x ⊎ (IsFrozen c m labels x → ⊥)
frozen_or_not c m labels x = elim (cases_eq (touched_faces c m labels x) 0) [
  | inl none ↦ inr (λ frozen. (frozen_touches c m labels x).0 frozen none)
  | inr some ↦ inl ((frozen_touches c m labels x).1 some)
]

-- a graph of the names that have one property, which are those that have another one
pub same_names : (Keeps Holds : ℕ → Type 0) → ((x : ℕ) → Keeps x → Holds x) → ((x : ℕ) → Holds x → Keeps x)
    → (g : Grid) (c : Chunking) (m : ℕ) (labels : List ℕ) (graph : RegionGraph)
    → IsGraphOfNames Keeps g c m labels graph → IsGraphOfNames Holds g c m labels graph
same_names Keeps Holds to from g c m labels graph is = record {
  graph_is = is.graph_is;
  regions = λ r. (
    (λ inside. let was = (is.regions r).0 inside in (was.0, was.1, to r.name was.2, was.3)),
    (λ now. (is.regions r).1 (now.0, now.1, from r.name now.2, now.3)),
  );
  edges = λ e. (
    (λ inside. let was = (is.edges e).0 inside in (was.0, to e.a was.1, to e.b was.2, was.3, was.4)),
    (λ now. (is.edges e).1 (now.0, from e.a now.1, from e.b now.2, now.3, now.4)),
  );
}

module _ (g : Grid) (t : Threshold) (c : Chunking) (h : IsChunking c) (axes : c.axes ≡ g.axes) (m : ℕ) (node : m < node_count c) where
  -- a free name has all its contacts inside the cell
  inside_of : (labels : List ℕ) → AreConnected g.axes labels → (x y : ℕ) → x ≢ 0 → IsFree c m labels x
      → between_inside g c m labels x y ≡ between g labels x y
  inside_of labels connected x y some free = inside-all g c m labels x y
      ((free_names_lie_inside g c m labels x h axes node connected some free).contacts y)

  module _ (labels others : List ℕ) (joined : AreConnected g.axes labels) (also : AreConnected g.axes others)
      (agree : AgreeIn c m labels others) where
    back : AgreeIn c m others labels
    back v held = sym (agree v held)

    free_alike : (x : ℕ) → IsFree c m labels x → IsFree c m others x
    free_alike x free = record {
      occurs = sym (same_occurs c m labels others agree x) ∙ free.occurs;
      unfrozen = λ frozen. free.unfrozen (frozen_alike c m others labels back x frozen);
    }

    free_contact : (x y : ℕ) → x ≢ 0 → IsFree c m labels x → between g labels x y ≡ between g others x y
    free_contact x y some free =
        sym (inside_of labels joined x y some free) ∙ same_between c m labels others agree g axes x y
        ∙ inside_of others also x y some (free_alike x free)

    first_alike : (x y : ℕ) → x ≢ 0 → IsFree c m labels x → IsFirstPartner g labels x y → IsFirstPartner g others x y
    first_alike x y some free first = record {
      touching = subst (λ d. 0 < d.count) (free_contact x y some free) first.touching;
      first = λ z apart touching.
          subst (λ d. Before d (between g others x z)) (free_contact x y some free)
          (subst (Before (between g labels x y)) (free_contact x z some free)
          (first.first z apart (subst (λ d. 0 < d.count) (sym (free_contact x z some free)) touching)));
    }

    pub reciprocal_alike : (a b : ℕ) → IsReciprocal g t c m labels a b → IsReciprocal g t c m others a b
    reciprocal_alike a b pair =
        let names = InContact-names g labels a b pair.pair.touching in
        let pa : a ≢ 0 = omega (arith, names) in
        let pb : b ≢ 0 = omega (arith, names) in
        record {
          pair = mutual_from_partners {g = g} {t = t} {labels = others} {a = a} {b = b} pair.pair.ordered
              (first_alike a b pa pair.a_free (first_partner_of_a {g = g} {t = t} {labels = labels} {a = a} {b = b} pair.pair))
              (first_alike b a pb pair.b_free (first_partner_of_b {g = g} {t = t} {labels = labels} {a = a} {b = b} pair.pair))
              (subst (Reaches t) (free_contact a b pa pair.a_free) pair.pair.reaches);
          a_free = free_alike a pair.a_free;
          b_free = free_alike b pair.b_free;
        }

    open_alike : (x : ℕ) → x ≢ 0 → IsTrue (occurs_in c m labels x) → IsFrozen c m labels x ⊎ FirstPairReaches g t labels x
        → IsFrozen c m others x ⊎ FirstPairReaches g t others x
    open_alike x some occurs (inl frozen) = inl (frozen_alike c m labels others agree x frozen)
    open_alike x some occurs (inr (y, first, reaches)) = elim (frozen_or_not c m labels x) [
      | inl frozen ↦ inl (frozen_alike c m labels others agree x frozen)
      | inr unfrozen ↦
          let free : IsFree c m labels x = record { occurs = occurs; unfrozen = unfrozen } in
          inr (y, first_alike x y some free first, subst (Reaches t) (free_contact x y some free) reaches)
    ]

    passed_alike : (x : ℕ) → IsPassed g t c m labels x → IsPassed g t c m others x
    passed_alike x passed = record {
      name = passed.name;
      occurs = sym (same_occurs c m labels others agree x) ∙ passed.occurs;
      open_ = open_alike x passed.name passed.occurs passed.open_;
    }

  pub residue_alike : (labels others : List ℕ) → AreConnected g.axes labels → AreConnected g.axes others
      → AgreeIn c m labels others → (graph : RegionGraph) → IsResidue g t c m labels graph → IsResidue g t c m others graph
  residue_alike labels others joined also agree graph is =
      same_names (IsPassed g t c m labels) (IsPassed g t c m others)
      (passed_alike labels others joined also agree)
      (passed_alike others labels also joined (λ v held. sym (agree v held)))
      g c m others graph
      (same_graph c m labels others agree (IsPassed g t c m labels) g axes graph is)
