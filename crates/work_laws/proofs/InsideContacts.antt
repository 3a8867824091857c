-- Contacts by the edges inside the cell of a node: of free names, after a merge, and in a graph of names.
use Rattle.std.proofs.Common.{◌≡◌, ◌≢◌, ◌⊎◌, inl, inr, ℕ, ◌<◌, Bool, true, false, ◌&&◌, List, refl, sym, ap, ◌∙◌, subst, eq-zero-or-pos, arith}
use Rattle.std.proofs.Math.Bool.{and-or_distrib_right}
use mathlib.Core.Path.{fun_ext}
use Rattle.agglo_model.specs.Axes.{edge_count}
use Rattle.agglo_model.specs.Grid.{Grid}
use Rattle.agglo_model.specs.PairOrder.{added}
use Rattle.agglo_model.specs.Contacts.{total, joins, between, renamed}
use Rattle.agglo_model.specs.Cutting.{Chunking}
use Rattle.agglo_model.specs.Freezing.{is_inside}
use Rattle.agglo_model.specs.RegionGraph.{GraphEdge, RegionGraph, IsGraphOfNames, between_inside, contact_in, no_contact}
use Rattle.agglo_model.proofs.Totals.{total-both, total-none, total-tie-le}
use Rattle.work_laws.proofs.RenamedJoins.{joins-swap, joins-third, joins-apart, joins-others}
use Rattle.agglo_model.proofs.GraphContacts.{same_contact}
use Rattle.agglo_model.proofs.GraphMerges.{contact_in-swap}
use Rattle.agglo_model.proofs.GraphEdges.{edge_contact-low, edge_of_contact}
use Rattle.agglo_model.proofs.GraphFirsts.{contact_in-none}
use Rattle.agglo_model.proofs.Cases.{apart_cases}

-- where all edges that join two names are inside, their contact is that of the whole volume
pub inside-all : (g : Grid) (c : Chunking) (m : ℕ) (labels : List ℕ) (x y : ℕ)
    → ((e : ℕ) → joins g labels x y e ≡ true → is_inside c m e ≡ true) → between_inside g c m labels x y ≡ between g labels x y
inside-all g c m labels x y all = ap (total g) (fun_ext (λ e. same (joins g labels x y e) (is_inside c m e) (all e)))
  where
    same : (p q : Bool) → (p ≡ true → q ≡ true) → (p && q) ≡ p
    same true q pass = pass refl
    same false q pass = refl

apart_inside : (p q i : Bool) → (p && q) ≡ false → ((p && i) && (q && i)) ≡ false
apart_inside p q i apart = grind arith

-- a merge adds up the contacts inside
pub inside-third : (g : Grid) (c : Chunking) (m : ℕ) (labels : List ℕ) (a b z : ℕ) → a ≢ b → a ≢ 0 → b ≢ 0 → z ≢ a → z ≢ b
    → between_inside g c m (renamed labels a b) a z
    ≡ added (between_inside g c m labels a z) (between_inside g c m labels b z)
inside-third g c m labels a b z ab pa pb za zb =
    ap (total g) (fun_ext (λ e.
    ap (λ t. t && is_inside c m e) (joins-third g labels a b z e ab pa pb za zb)
    ∙ and-or_distrib_right (joins g labels a z e) (joins g labels b z e) (is_inside c m e)))
    ∙ total-both g (λ e. joins g labels a z e && is_inside c m e) (λ e. joins g labels b z e && is_inside c m e)
    (λ e. apart_inside (joins g labels a z e) (joins g labels b z e) (is_inside c m e) (joins-apart g labels a b z e ab za zb))

pub inside-others : (g : Grid) (c : Chunking) (m : ℕ) (labels : List ℕ) (a b x y : ℕ) → b ≢ 0 → x ≢ a → x ≢ b → y ≢ a → y ≢ b
    → between_inside g c m (renamed labels a b) x y ≡ between_inside g c m labels x y
inside-others g c m labels a b x y pb xa xb ya yb =
    ap (total g) (fun_ext (λ e. ap (λ t. t && is_inside c m e) (joins-others g labels a b x y e pb xa xb ya yb)))

pub inside-swap : (g : Grid) (c : Chunking) (m : ℕ) (labels : List ℕ) (x y : ℕ)
    → between_inside g c m labels x y ≡ between_inside g c m labels y x
inside-swap g c m labels x y = ap (total g) (fun_ext (λ e. ap (λ t. t && is_inside c m e) (joins-swap g labels x y e)))

-- in a graph of names the contact of two of them is that inside the cell
module _ (Keeps : ℕ → Type 0) (g : Grid) (c : Chunking) (m : ℕ) (labels : List ℕ) (graph : RegionGraph)
    (names : IsGraphOfNames Keeps g c m labels graph) where
  ordered_contact : (x y : ℕ) → Keeps x → Keeps y → x < y
      → contact_in (edge_count g.axes) graph.edges x y ≡ between_inside g c m labels x y
  ordered_contact x y kx ky xy = elim (eq-zero-or-pos (between_inside g c m labels x y).count) [
    | inr some ↦
        let e : GraphEdge = record { a = x; b = y; contact = between_inside g c m labels x y } in
        edge_contact-low graph names.graph_is (edge_count g.axes) e ((names.edges e).1 (xy, kx, ky, some, refl))
        (total-tie-le g (λ e. joins g labels x y e && is_inside c m e))
    | inl none ↦
        let nothing = total-none g (λ e. joins g labels x y e && is_inside c m e) none in
        let no_edge : (contact_in (edge_count g.axes) graph.edges x y).count ≡ 0 = zero (eq-zero-or-pos (contact_in (edge_count g.axes) graph.edges x y).count) none in
        contact_in-none graph names.graph_is (edge_count g.axes) x y no_edge
        ∙ same_contact (no_contact (edge_count g.axes)) (between_inside g c m labels x y) (sym nothing.0) (sym none) (sym nothing.1)
  ]
    where
      zero : ((contact_in (edge_count g.axes) graph.edges x y).count ≡ 0) ⊎ (0 < (contact_in (edge_count g.axes) graph.edges x y).count)
          → (between_inside g c m labels x y).count ≡ 0 → (contact_in (edge_count g.axes) graph.edges x y).count ≡ 0
      zero (inl same) none = same
      zero (inr some) none =
          let found = edge_of_contact graph names.graph_is (edge_count g.axes) x y xy some in
          let of_names = (names.edges found.0).0 found.1 in
          let there : 0 < (between_inside g c m labels x y).count =
          subst (λ a. 0 < (between_inside g c m labels a y).count) found.2
          (subst (λ b. 0 < (between_inside g c m labels found.0.a b).count) found.3 of_names.3) in
          absurd (omega arith)

  pub names_contact : (x y : ℕ) → Keeps x → Keeps y → x ≢ y
      → contact_in (edge_count g.axes) graph.edges x y ≡ between_inside g c m labels x y
  names_contact x y kx ky xy = elim (apart_cases x y xy) [
    | inl less ↦ ordered_contact x y kx ky less
    | inr more ↦
        contact_in-swap (edge_count g.axes) x y graph.edges ∙ ordered_contact y x ky kx more ∙ inside-swap g c m labels y x
  ]
